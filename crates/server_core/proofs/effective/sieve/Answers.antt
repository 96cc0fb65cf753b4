use Rattle.std.proofs.Common.{ℕ, Vec, Global, ap, sym, subst, ◌∙◌, arith, get_or, take, ◌+◌}
use Rattle.std.proofs.lemmas.List.{take_all}
use Rattle.server_stock.specs.Stock.{held_from}
use Rattle.server_core.specs.Due.{IsHeldAs}
use Rattle.server_core.proofs.Sieving.{Sieved, sieve-none, sieve-yes, sieve-no, held-as, held-else}
use Rattle.server_core.proofs.effective.sieve.Goals as goal
use Rattle.server_core.proofs.effective.sieve.Goals.{then-holds-held+in_ok-push, else-holds-held}
use Rattle.base.proofs.Sets.{get_or-has}

pub loop-i-init : goal.loop-i-init
loop-i-init g c = sieve-none (λ k. IsHeldAs c.args.held c.args.stock.now.items (held_from g.T.Cover.order c.args.interface c.args.stock.now.holdings) k) c.new-list.result.items c.new-list.ensures.items

pub holds-requires : goal.holds-requires
holds-requires g c = c.requires (get_or c.args.numbers.now c.loop-i.i-index 0) (get_or-has c.args.numbers.now c.loop-i.i-index 0 (omega arith))

pub loop-i-preserved : goal.loop-i-preserved
loop-i-preserved g c =
    let items = c.args.stock.now.items in
    let held = held_from g.T.Cover.order c.args.interface c.args.stock.now.holdings in
    let numbers = c.args.numbers.now in
    let i = c.loop-i.i-index in
    let there = c.requires (get_or numbers i 0) (get_or-has numbers i 0 (omega arith)) in
    elim c.if-holds-held.branch [
      | then-holds-held+in_ok-push w ↦
          subst (Sieved (λ k. IsHeldAs c.args.held items held k) (take (i + 1) numbers)) (sym (ap (λ (v : Vec ℕ Global). v.items) w.list-is ∙ w.in_ok-push.ensures.items))
          (sieve-yes (λ k. IsHeldAs c.args.held items held k) numbers c.loop-i.list.items i (omega arith) c.loop-i.invariant (held-as items held (get_or numbers i 0) c.holds.result c.args.held there c.holds.ensures w.if-holds-held.true))
      | else-holds-held w ↦
          subst (Sieved (λ k. IsHeldAs c.args.held items held k) (take (i + 1) numbers)) (sym (ap (λ (v : Vec ℕ Global). v.items) w.list-is))
          (sieve-no (λ k. IsHeldAs c.args.held items held k) numbers c.loop-i.list.items i (omega arith) c.loop-i.invariant (held-else items held (get_or numbers i 0) c.holds.result c.args.held there c.holds.ensures w.if-holds-held.false))
    ]

pub returns : goal.returns
returns g c = subst (λ z. Sieved (λ k. IsHeldAs c.args.held c.args.stock.now.items (held_from g.T.Cover.order c.args.interface c.args.stock.now.holdings) k) z c.loop-i.list.items) (take_all c.loop-i.i-index c.args.numbers.now (omega arith)) c.loop-i.invariant
