-- The laws of a sum over a list.
use Rattle.std.proofs.Common.{◌≡◌, Bool, true, false, cond, List, [], ◌∷◌, ◌++◌, map, filter, sym, refl, ap, ◌∙◌, ap₂}
use mathlib.Core.Path.{fun_ext}
use Rattle.std.specs.List.{flat_map, AllByRecursion}
use Rattle.walk.specs.Semiring.{Ops, Laws, summed}

-- a sum of equal terms
pub summed_same : {A W : Type 0} (o : Ops W) (f g : A → W) (xs : List A) → ((x : A) → f x ≡ g x) → summed o f xs ≡ summed o g xs
summed_same o f g xs h = ap (λ k. summed o k xs) (fun_ext h)

pub summed_same_at : {A W : Type 0} (o : Ops W) (f g : A → W) (xs : List A) → AllByRecursion (λ x. f x ≡ g x) xs → summed o f xs ≡ summed o g xs
summed_same_at o f g [] h = refl
summed_same_at o f g (x ∷ xs) h = ap₂ o.add h.0 (summed_same_at o f g xs h.1)

pub summed_map : {A B W : Type 0} (o : Ops W) (f : B → W) (g : A → B) (xs : List A) → summed o f (map g xs) ≡ summed o (λ x. f (g x)) xs
summed_map o f g [] = refl
summed_map o f g (x ∷ xs) = ap (o.add (f (g x))) (summed_map o f g xs)

pub kept_by_append : {A : Type 0} (b : A → Bool) (xs ys : List A) → filter b (xs ++ ys) ≡ filter b xs ++ filter b ys
kept_by_append b [] ys = refl
kept_by_append b (x ∷ xs) ys =
    let rest = kept_by_append b xs ys in
    elim (b x) as (λ t. cond t (x ∷ filter b (xs ++ ys)) (filter b (xs ++ ys)) ≡ cond t (x ∷ filter b xs) (filter b xs) ++ filter b ys)
    [ true ↦ ap (λ zs. x ∷ zs) rest | false ↦ rest ]

pub kept_by_joined : {A X : Type 0} (b : A → Bool) (f : X → List A) (xs : List X) → filter b (flat_map f xs) ≡ flat_map (λ x. filter b (f x)) xs
kept_by_joined b f [] = refl
kept_by_joined b f (x ∷ xs) = kept_by_append b (f x) (flat_map f xs) ∙ ap (λ zs. filter b (f x) ++ zs) (kept_by_joined b f xs)

pub kept_by_map : {A B : Type 0} (b : B → Bool) (f : A → B) (xs : List A) → filter b (map f xs) ≡ map f (filter (λ x. b (f x)) xs)
kept_by_map b f [] = refl
kept_by_map b f (x ∷ xs) =
    let rest = kept_by_map b f xs in
    elim (b (f x)) as (λ t. cond t (f x ∷ filter b (map f xs)) (filter b (map f xs)) ≡ map f (cond t (x ∷ filter (λ y. b (f y)) xs) (filter (λ y. b (f y)) xs)))
    [ true ↦ ap (λ zs. f x ∷ zs) rest | false ↦ rest ]

module _ {W : Type 0} (o : Ops W) (laws : Laws o) where
  pub add_nought_right : (x : W) → o.add x o.nought ≡ x
  add_nought_right x = laws.add_comm x o.nought ∙ laws.add_nought x

  -- two sums of two, added the other way
  pub add_cross : (a b c d : W) → o.add (o.add a b) (o.add c d) ≡ o.add (o.add a c) (o.add b d)
  add_cross a b c d =
      laws.add_assoc a b (o.add c d)
      ∙ ap (o.add a) (sym (laws.add_assoc b c d) ∙ ap (λ x. o.add x d) (laws.add_comm b c) ∙ laws.add_assoc c b d)
      ∙ sym (laws.add_assoc a c (o.add b d))

  pub summed_append : {A : Type 0} (f : A → W) (xs ys : List A) → summed o f (xs ++ ys) ≡ o.add (summed o f xs) (summed o f ys)
  summed_append f [] ys = sym (laws.add_nought (summed o f ys))
  summed_append f (x ∷ xs) ys = ap (o.add (f x)) (summed_append f xs ys) ∙ sym (laws.add_assoc (f x) (summed o f xs) (summed o f ys))

  pub summed_joined : {A X : Type 0} (f : A → W) (g : X → List A) (xs : List X) → summed o f (flat_map g xs) ≡ summed o (λ x. summed o f (g x)) xs
  summed_joined f g [] = refl
  summed_joined f g (x ∷ xs) = summed_append f (g x) (flat_map g xs) ∙ ap (o.add (summed o f (g x))) (summed_joined f g xs)

  pub summed_nought : {A : Type 0} (xs : List A) → summed o (λ (x : A). o.nought) xs ≡ o.nought
  summed_nought [] = refl
  summed_nought (x ∷ xs) = laws.add_nought _ ∙ summed_nought xs

  pub summed_add : {A : Type 0} (f g : A → W) (xs : List A) → summed o (λ x. o.add (f x) (g x)) xs ≡ o.add (summed o f xs) (summed o g xs)
  summed_add f g [] = sym (laws.add_nought o.nought)
  summed_add f g (x ∷ xs) = ap (o.add (o.add (f x) (g x))) (summed_add f g xs) ∙ add_cross (f x) (g x) (summed o f xs) (summed o g xs)

  pub mul_summed : {A : Type 0} (a : W) (f : A → W) (xs : List A) → summed o (λ x. o.mul a (f x)) xs ≡ o.mul a (summed o f xs)
  mul_summed a f [] = sym (laws.mul_nought a)
  mul_summed a f (x ∷ xs) = ap (o.add (o.mul a (f x))) (mul_summed a f xs) ∙ sym (laws.mul_add a (f x) (summed o f xs))

  pub summed_mul : {A : Type 0} (a : W) (f : A → W) (xs : List A) → summed o (λ x. o.mul (f x) a) xs ≡ o.mul (summed o f xs) a
  summed_mul a f [] = sym (laws.nought_mul a)
  summed_mul a f (x ∷ xs) = ap (o.add (o.mul (f x) a)) (summed_mul a f xs) ∙ sym (laws.add_mul (f x) (summed o f xs) a)

  -- the order of two sums does not matter
  pub summed_swap : {A B : Type 0} (f : A → B → W) (xs : List A) (ys : List B) → summed o (λ x. summed o (f x) ys) xs ≡ summed o (λ y. summed o (λ x. f x y) xs) ys
  summed_swap f [] ys = sym (summed_nought ys)
  summed_swap f (x ∷ xs) ys = ap (o.add (summed o (f x) ys)) (summed_swap f xs ys) ∙ sym (summed_add (f x) (λ y. summed o (λ z. f z y) xs) ys)

  -- a sum from the last to the first
  abbrev pub backwards : {A : Type 0} → List A → List A
  backwards [] = []
  backwards (x ∷ xs) = backwards xs ++ (x ∷ [])

  pub summed_backwards : {A : Type 0} (f : A → W) (xs : List A) → summed o f (backwards xs) ≡ summed o f xs
  summed_backwards f [] = refl
  summed_backwards f (x ∷ xs) =
      summed_append f (backwards xs) (x ∷ []) ∙ ap₂ o.add (summed_backwards f xs) (add_nought_right (f x)) ∙ laws.add_comm (summed o f xs) (f x)
