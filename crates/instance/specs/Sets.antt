-- The sets of a splitting rule: wherever a sled is in its set, it still meets the other.
use Rattle.std.specs.Prelude.{◌≡◌, false, ◌&&◌, ◌⊎◌, nat_lt}
use Rattle.std.proofs.Common.{⊎_elim}
use Rattle.std.proofs.lemmas.Bool.{and_parts, both_ways, cases_Bool}
use Rattle.grid.specs.declared.position.Position.{Position}
use Rattle.fleet.specs.Offsets.{FleetTerms}
use Rattle.geometry.specs.Shares.{share_cell}
use Rattle.split.specs.declared.pair.Side.{Side}
use Rattle.split.specs.declared.pair.Side.TheVariants.{Lower, Upper}
use Rattle.split.specs.Situations.{Situation, Sets, HoldsU, HoldsV, AllShare, OnlyMeeting, on_board}
use Rattle.plans.specs.Instance.{SplitTerms}
use Rattle.instance.specs.Absent.{Nothing, nothing_shares, shares_nothing}

pub split_terms : (sets : Sets) → HoldsU sets → HoldsV sets → AllShare sets → OnlyMeeting sets → SplitTerms sets
split_terms sets u v share only = record { holds_u = u; holds_v = v; all_share = share; only_meeting = only }

module _ (sets : Sets) (keeps : SplitTerms sets) (s : Situation) (terms : FleetTerms s.count s.sleds) where
  pub apart_lower : (w : Position) → share_cell (s.sleds s.i) w (s.sleds s.j) s.v ≡ false → sets s Lower w ≡ false
  apart_lower w apart =
      ⊎_elim
      (λ e. absurd (both_ways _ apart (keeps.all_share s w s.v terms e (keeps.holds_v s terms (keeps.only_meeting s Lower w terms e).0))))
      (λ e. e) (cases_Bool (sets s Lower w))

  pub apart_upper : (w : Position) → share_cell (s.sleds s.i) s.u (s.sleds s.j) w ≡ false → sets s Upper w ≡ false
  apart_upper w apart =
      ⊎_elim
      (λ e. absurd (both_ways _ apart (keeps.all_share s s.u w terms (keeps.holds_u s terms (keeps.only_meeting s Upper w terms e).0) e)))
      (λ e. e) (cases_Bool (sets s Upper w))

  -- where one of the two covers no cell, nothing is in a set
  pub none_in : (side : Side) (w : Position) → Nothing (s.sleds s.i) ⊎ Nothing (s.sleds s.j) → sets s side w ≡ false
  none_in side w none =
      let apart = ⊎_elim (nothing_shares (s.sleds s.i) s.u (s.sleds s.j) s.v) (shares_nothing (s.sleds s.i) s.u (s.sleds s.j) s.v) none in
      ⊎_elim
      (λ e. absurd (both_ways _ apart (and_parts (nat_lt s.i s.j && (on_board s.u && on_board s.v)) _ (keeps.only_meeting s side w terms e).0).1))
      (λ e. e) (cases_Bool (sets s side w))
