use Rattle.std.proofs.Common.{◌≡◌, ◌+◌, ◌∷◌, ◌∙◌, List, drop, get_or, fold, sym, ap}
use Rattle.std.proofs.lemmas.List.{drop_more}
use Rattle.match_routes.specs.Installed.{Installed}
use Rattle.match_routes.specs.declared.table_change.TableChange.{TableChange}
use Rattle.match_routes.specs.declared.table_change.TableChange.TheVariants.{Put}
use Rattle.thread_versions.specs.Pairs.{made}
use Rattle.thread_versions.proofs.Applied.{made-same}
use Rattle.thread_versions.proofs.applying.make_all.Goals as goal

pub loop-change-preserved : goal.loop-change-preserved
loop-change-preserved c =
    let changes : List TableChange = c.args.changes.now in
    let i = c.loop-change.change-index in
    let v = c.loop-change.invariant in
    let change = get_or changes i (Put 0 0) in
    let e : drop i changes ≡ change ∷ drop (i + 1) changes = drop_more changes i (Put 0 0) c.loop-change-test.true in
    let kept : c.make.new.forwarding.interfaces ≡ c.loop-change.forwarding.interfaces = ap (λ (p : Installed). p.interfaces) c.make.ensures ∙ (made-same c.loop-change.forwarding change).interfaces in
    record {
      same = v.same ∙ sym kept;
      kept = kept ∙ v.kept;
      rest = ap (λ (p : Installed). fold made p (drop (i + 1) changes)) c.make.ensures ∙ (ap (λ (cs : List TableChange). fold made c.loop-change.forwarding cs) (sym e) ∙ v.rest);
    }
