use Rattle.std.proofs.Common.{false, ◌||◌, List, [], get_or, replicate, sym, ap, ◌∙◌}
use Rattle.std.proofs.lemmas.List.{get_or-replicate}
use Rattle.std.proofs.lemmas.Bool.{false≢true}
use Rattle.walk.specs.declared.weight.Step.{Step}
use Rattle.engine.specs.Forbids.{forbids_place, forbids_move, listed}
use Rattle.engine.proofs.forbidden.Forbidden.nothing.Goals as goal

pub returns-clause-empty : goal.returns-clause-empty
returns-clause-empty c bs = record {
  places = λ t p h l. ap (λ b. b || forbids_place bs t p) (ap (λ row. get_or row p false) (get_or-replicate 64 t (replicate 256 false) [] h) ∙ get_or-replicate 256 p false false l);
  moves = λ t p q. ap (λ (ms : List Step). listed ms t p q || forbids_move bs t p q) c.new.ensures;
  flagged = λ t p q h l e. absurd (false≢true (sym (ap (λ (ms : List Step). listed ms t p q) c.new.ensures) ∙ e));
}
