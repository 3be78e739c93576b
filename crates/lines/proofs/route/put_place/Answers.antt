use Rattle.std.proofs.Common.{◌≡◌, ◌++◌, codes, decimal, subst, rules}
use Rattle.text.specs.Texts.{Appends}
use Rattle.text.proofs.Written.{appends-put, appends-both}
use Rattle.lines.specs.Plans.{place_text}
use Rattle.lines.proofs.Lengths.{place_short}
use Rattle.lines.proofs.route.put_place.Goals as goal

pub returns : goal.returns
unfolding place_text
returns c =
    let is : decimal c.from.result ++ codes "," ++ decimal c.from-2.result ≡ place_text c.args.number = search rules in
    let column = appends-put c.put_number.ensures in
    record {
      text = subst (λ l. Appends c.args.text.now l c.put_number-2.new.self) is (appends-both (appends-both column (appends-put c.put.ensures)) (appends-put c.put_number-2.ensures));
      short = place_short c.args.number (search rules);
    }
