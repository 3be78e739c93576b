use Rattle.std.proofs.Common.{◌≡◌, IfSome, List, [], get_or, Some, None, Option, MatchOption, Bor, sym, ap, ◌∙◌, arith}
use Rattle.std.specs.Option.{option_copied}
use Rattle.std.proofs.lemmas.Option.{MatchOption-at_some}
use mathlib.Core.Logic.{∥∥₁_map}
use Rattle.tables.specs.declared.differences.Differences.{Differences}
use Rattle.instance.proofs.instance.Instance.differences.Goals as goal

lent : (r : Option (Bor Differences)) (o : Option Differences) (N : Type 0) (P : Differences → Type 0) → option_copied r ≡ o → ∥ MatchOption o N P ∥₁ → IfSome r (λ d. ∥ P d.now ∥₁)
lent None o N P e told = tt
lent (Some d) o N P e told = ∥∥₁_map told (MatchOption-at_some N P d.now (sym e))

pub returns : goal.returns
returns c =
    let i = c.args.pair.i in
    let j = c.args.pair.j in
    let (below, row) = c.in_ok-get.ensures.lookup.3 in
    let (before, table) = c.in_ok-get-2.ensures.lookup.3 in
    let at = table None ∙ ap (λ (xs : List (Option Differences)). get_or xs j None) (row []) in
    lent c.as_ref.result _ _ _ (c.as_ref.ensures.value ∙ at) (∥∥₁_map c.args.self.now.paired (λ told. told i (omega arith) j (omega arith)))
