use Rattle.std.proofs.Common.{rules, ◌≡◌, ◌∙◌, ℕ, List, [], length, sym, ap, subst, arith}
use Rattle.std.proofs.lemmas.List.{length-replicate}
use Rattle.base_bits.specs.Rows.{Numbers}
use Rattle.match_routes.specs.Rows.{AreEmpty, AreSets}
use Rattle.match_routes.proofs.Empty.{empty-rows, sets-rows}
use Rattle.match_routes.proofs.ByPlace.{none-installed}
use Rattle.match_routes.proofs.Presence.{none-present}
use Rattle.match_routes.proofs.forwarding.Forwarding.new.Goals as goal

pub returns-clause-pairs : goal.returns-clause-pairs
returns-clause-pairs c =
    none-installed c.in_ok-interfaces.interfaces.items c.in_ok-columns.columns.rows (subst AreEmpty (sym c.in_ok-columns.ensures.rows) (empty-rows c.args.width (length c.args.interfaces.now)))

pub invariant_of-result : goal.invariant_of-result
invariant_of-result c =
    let rows = c.in_ok-columns.ensures.rows in
    let count : length c.in_ok-interfaces.interfaces.items ≡ length c.args.interfaces.now = ap (λ (xs : List ℕ). length xs) c.in_ok-interfaces.ensures.items in
    let empty = subst AreEmpty (sym rows) (empty-rows c.args.width (length c.args.interfaces.now)) in (
      record {
        rising = search (rules, c.in_ok-interfaces.ensures);
        long = ap (λ (xs : List Numbers). length xs) rows ∙ length-replicate c.args.width (record { width = length c.args.interfaces.now; members = [] });
        fits = omega arith;
        few = omega (arith, count, c.requires.few);
        sets = subst (λ (n : ℕ). AreSets n c.in_ok-columns.columns.rows) (sym count) (subst (AreSets (length c.args.interfaces.now)) (sym rows) (sets-rows c.args.width (length c.args.interfaces.now) c.requires.few));
      },
      c.in_ok-columns.ensures.width ∙ sym count,
      record {
        wide = c.in_ok-present.ensures.width;
        each = λ i place h. absurd (none-present c.in_ok-columns.columns.rows empty i place h);
      },
    )
