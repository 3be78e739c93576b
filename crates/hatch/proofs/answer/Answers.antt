use Rattle.std.proofs.lemmas.Result.{on_ok_weaker}
use Rattle.hatch.proofs.answer.Goals as goal

pub returns : goal.returns
returns c = on_ok_weaker c.tell.result (λ planned. (c.in_ok-accepted.field-0, c.in_ok-accepted.ensures, planned)) c.tell.ensures
