use Rattle.std.proofs.Common.{◌≡◌, ◌+◌, ◌≤◌, ◌&&◌, Bool, true, false, nat_lt, List, ◌++◌, ◌∷◌, [], cond, length, ap, sym, ◌∙◌, arith, length-append}
use Rattle.base_tree.specs.Graph.{servers_to}
use Rattle.output_traffic.specs.Links.{is_link, links_from}
use Rattle.output_traffic.proofs.Edges.{up-next}
use Rattle.output_traffic.proofs.links.push_links.Goals as goal
use Rattle.output_traffic.proofs.links.push_links.Goals.{then-is_link_up+in_ok-push, else-is_link_up}

-- one is put at most
grown : {X : Type 0} (put : Bool) (xs : List X) (x : X) → length (cond put (xs ++ x ∷ []) xs) ≤ length xs + 1
grown true xs x = omega (arith, length-append xs (x ∷ []))
grown false xs x = omega arith

pub loop-b-preserved : goal.loop-b-preserved
loop-b-preserved c =
    let trees = c.args.trees.now in
    let a = c.args.a in
    let b = c.loop-b.b in
    let links = c.loop-b.links.items in
    let test = c.is_link_up.ensures in
    let put = nat_lt a b && is_link trees a b in
    let made : c.if-is_link_up.links.items ≡ cond put (links ++ (a, b) ∷ []) links = elim c.if-is_link_up.branch [
      | then-is_link_up+in_ok-push w ↦ ap (λ z. z.items) w.links-is ∙ (w.in_ok-push.ensures.items ∙ ap (λ z. cond z (links ++ (a, b) ∷ []) links) (sym w.if-is_link_up.true ∙ test))
      | else-is_link_up w ↦ ap (λ z. z.items) w.links-is ∙ ap (λ z. cond z (links ++ (a, b) ∷ []) links) (sym w.if-is_link_up.false ∙ test)
    ] in
    record {
      links = up-next trees c.args.count a b links c.if-is_link_up.links.items (c.args.links.now.items ++ links_from trees (servers_to c.args.count) a) c.loop-b-test.true c.loop-b.invariant.links made;
      most = omega (arith, c.loop-b.invariant.most, ap length made, grown put links (a, b));
    }
