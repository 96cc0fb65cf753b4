use Rattle.std.proofs.Common.{◌≡◌, List, [], ◌∷◌, get_or, refl, sym, ap, subst, ◌∙◌, arith}
use Rattle.core.specs.List.{remove}
use Rattle.thread_versions.specs.Ends.{IsViewerOf, width_of}
use Rattle.thread_versions.specs.declared.viewer.Viewer.{Viewer}
use Rattle.thread_cell.proofs.starting.start_one.Goals as goal

-- without the second of two the first stays
first-stays : {X : Type 0} (xs : List X) (d : X) → get_or (remove xs 1) 0 d ≡ get_or xs 0 d
first-stays [] d = refl
first-stays (x ∷ []) d = refl
first-stays (x ∷ y ∷ xs) d = refl

pub returns-clause-started : goal.returns-clause-started
returns-clause-started g c =
    let n = c.in_ok-publisher.ensures.count in
    let v = c.in_ok-publisher.ensures.viewers in
    let l : IsViewerOf c.in_ok-publisher.publisher c.remove-for_links.result = subst (IsViewerOf c.in_ok-publisher.publisher) (sym c.remove-for_links.ensures.value) (v 1 c.remove-for_links.result (omega (arith, n))).0 in
    let at = c.remove-commands.ensures.value ∙ ap (λ xs. get_or xs 0 c.remove-commands.result) c.remove-for_links.ensures.items ∙ first-stays c.in_ok-publisher.viewers.items c.remove-commands.result in
    let m : IsViewerOf c.in_ok-publisher.publisher c.remove-commands.result = subst (IsViewerOf c.in_ok-publisher.publisher) (sym at) (v 0 c.remove-commands.result (omega (arith, n))).0 in
    let e = sym c.fresh-cell.ensures.viewer in
    record {
      fresh = c.fresh-cell.ensures.fresh;
      commands = record { book = ap (λ (x : Viewer). x.front.seen.book) e; width = ap width_of e };
      links_viewer = record { book = l.book ∙ sym m.book ∙ ap (λ (x : Viewer). x.front.seen.book) e; width = l.width ∙ sym m.width ∙ ap width_of e };
    }
