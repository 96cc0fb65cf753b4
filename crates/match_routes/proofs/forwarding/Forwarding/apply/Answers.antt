use Rattle.std.proofs.Common.{◌≡◌, ◌+◌, ◌∷◌, ◌∙◌, List, drop, get_or, sym, ap, subst}
use Rattle.std.proofs.lemmas.List.{drop_more}
use Rattle.match_routes.specs.Installed.{AreKnown, all_changed}
use Rattle.match_routes.specs.declared.table_change.TableChange.{TableChange}
use Rattle.match_routes.specs.declared.table_change.TableChange.TheVariants.{Put}
use Rattle.match_routes.proofs.Changing.{same-too, all-known-too}
use Rattle.match_routes.proofs.forwarding.Forwarding.apply.Goals as goal

pub loop-change-preserved : goal.loop-change-preserved
loop-change-preserved c =
    let changes : List TableChange = c.args.changes.now in
    let i = c.loop-change.change-index in
    let v = c.loop-change.invariant in
    let e : drop i changes ≡ get_or changes i (Put 0 0) ∷ drop (i + 1) changes = drop_more changes i (Put 0 0) c.loop-change-test.true in
    let k = subst (AreKnown c.loop-change.self) e v.known in
    record {
      same = same-too c.change.new.self c.loop-change.self c.args.self.now c.change.ensures.same v.same;
      known = all-known-too c.loop-change.self c.change.new.self (drop (i + 1) changes) c.change.ensures.same k.1;
      pairs = ap (all_changed (drop (i + 1) changes)) c.change.ensures.pairs ∙ (ap (λ (cs : List TableChange). all_changed cs c.loop-change.self.pairs) (sym e) ∙ v.pairs);
    }
