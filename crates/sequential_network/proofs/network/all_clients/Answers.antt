use Rattle.std.proofs.Common.{◌≡◌, ℕ, suc, List, length, [], ◌∷◌, slice_get, Some, sym, ap, subst, ◌∙◌, rules, arith}
use Rattle.net_model.specs.Nets.{clients_of}
use Rattle.sequential_network.proofs.network.all_clients.Goals as goal
use Rattle.std.proofs.lemmas.List.{length-append}
use Rattle.base.proofs.Lists.{each-get-push}

pub loop-place-preserved : goal.loop-place-preserved
loop-place-preserved c =
    let before = c.loop-place.invariant.0 in
    let longer = length-append c.loop-place.clients.items (c.in_ok-clients_at.field-0 ∷ []) in (
      ap length c.in_ok-push.ensures.items ∙ omega (arith, before, longer),
      subst (λ z. (k : ℕ) (list : List ℕ) → slice_get z k ≡ Some list → list ≡ clients_of c.args.net.now (suc k)) (sym c.in_ok-push.ensures.items)
          (each-get-push (λ k list. list ≡ clients_of c.args.net.now (suc k)) c.loop-place.clients.items c.in_ok-clients_at.field-0 c.loop-place.invariant.1
          (c.in_ok-clients_at.ensures ∙ ap (clients_of c.args.net.now) (omega (arith, before)))),
    )

pub returns : goal.returns
returns c =
    let all = c.loop-place.invariant.0 in let count = c.requires.count.0 in let out = c.loop-place-test.false in let within = c.loop-place.auto.place-end in
    record { all = search (rules, all, count, out, within); each = c.loop-place.invariant.1 }
