use Rattle.std.proofs.Common.{◌≡◌, ℕ, zero, suc, ◌+◌, ◌<◌, ◌||◌, true, List, [], ◌∷◌, length, drop, get_or, refl, sym, ap, ◌∙◌, arith, add-one}
use Rattle.filter_text.specs.declared.id.Id.{Id}
use Rattle.filter_text.specs.Deliveries.{Delivery}
use Rattle.net_inbox.specs.Inbox.{at_numbers, delivery_at, in_order}
use Rattle.program_sequential.specs.Promise.{is_id}
use Rattle.program_sequential.specs.Explanations.{is_received}
use Rattle.program_sequential.proofs.explanation.is_received.Goals as goal

next-suc : (id : Id) (all : List Delivery) (numbers : List ℕ) (i : ℕ) → i < length numbers
    → is_received id (drop i (at_numbers all numbers)) ≡ (is_id id (delivery_at all (get_or numbers i 0)).id || is_received id (drop (suc i) (at_numbers all numbers)))
next-suc id all [] i l = absurd (omega (arith, l))
next-suc id all (n ∷ numbers) zero l = refl
next-suc id all (n ∷ numbers) (suc i) l = next-suc id all numbers i (omega (arith, l))

next : (id : Id) (all : List Delivery) (numbers : List ℕ) (i : ℕ) → i < length numbers
    → is_received id (drop i (at_numbers all numbers)) ≡ (is_id id (delivery_at all (get_or numbers i 0)).id || is_received id (drop (i + 1) (at_numbers all numbers)))
next id all numbers i l = rw add-one (next-suc id all numbers i l)

pub returns-then-is_of : goal.returns-then-is_of
returns-then-is_of c =
    let all = c.args.received.deliveries.now in
    let numbers = c.args.received.numbers.now in
    let i = c.loop-number.number-index in
    let rest = is_received c.args.id (drop (i + 1) (at_numbers all numbers)) in
    let hit = sym c.if-is_of.true ∙ c.is_of.ensures ∙ ap (λ (d : Delivery). is_id c.args.id d.id) c.at-delivery.ensures in
    ap (λ b. b || rest) hit ∙ sym (next c.args.id all numbers i c.loop-number-test.true) ∙ c.loop-number.invariant

pub loop-number-preserved : goal.loop-number-preserved
loop-number-preserved c =
    let all = c.args.received.deliveries.now in
    let numbers = c.args.received.numbers.now in
    let i = c.loop-number.number-index in
    let rest = is_received c.args.id (drop (i + 1) (at_numbers all numbers)) in
    let miss = sym c.if-is_of.false ∙ c.is_of.ensures ∙ ap (λ (d : Delivery). is_id c.args.id d.id) c.at-delivery.ensures in
    ap (λ b. b || rest) miss ∙ sym (next c.args.id all numbers i c.loop-number-test.true) ∙ c.loop-number.invariant
