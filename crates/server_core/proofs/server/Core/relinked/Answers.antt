use Rattle.std.proofs.Common.{◌≡◌, ℕ, ◌+◌, ◌<◌, ◌≤◌, nat_lt, List, length, map, take, sym, ap, ap₂, subst, ◌∙◌, arith}
use Rattle.std.specs.List.Sorted.{IsStrictlyIncreasing}
use Rattle.filter_constraints.specs.Constraint.{ConstraintParts}
use Rattle.base.specs.Sets.{Has, IsRising}
use Rattle.server_spec.specs.declared.control.HeldLink.{HeldLink}
use Rattle.server_spec.specs.Control.{Controlled, subs, advs}
use Rattle.server_control.specs.Held.{held_in}
use Rattle.server_core.specs.Clients.{bare, client_numbers}
use Rattle.server_core.specs.Core.{CoreParts, core_parts}
use Rattle.server_core.specs.Linked.{interfaces_on, SuitsCore, IsLinked}
use Rattle.server_core.specs.Putting.{ArePut, held_by_clients}
use Rattle.server_core.proofs.Commands.{numbers-bare}
use Rattle.server_core.proofs.Starting.{front-has, back-has, interfaces-rise, interfaces-few}
use Rattle.server_core.proofs.Relinks.{range-of, small-links, links-first, made-linked, made-suits}
use Rattle.server_core.proofs.server.Core.relinked.Goals as goal
use Rattle.std.proofs.Math.Seq.{take-append_seam}
use Rattle.base.proofs.Sets.{map-has}

pub interfaces_of-requires : goal.interfaces_of-requires
interfaces_of-requires c =
    let core : CoreParts = core_parts c.self.inside.server c.self.inside.ledger (map bare c.self.inside.clients.sessions) c.self.inside.clock in
    let ns = client_numbers (map bare c.self.inside.clients.sessions) in
    let ok = c.requires.held in
    let kept = c.self.invariant.kept in
    let given = map (λ (h : HeldLink). h.link) (held_in c.args.held.now) in
    let numbers : c.numbers-numbers.result.now ≡ client_numbers (map bare c.self.inside.clients.sessions) = c.numbers-numbers.ensures ∙ sym (numbers-bare c.self.inside.clients.sessions) in
    λ n m. (range-of core kept n (subst (Has n) numbers m)).1

pub new-requires-clause-rising : goal.new-requires-clause-rising
new-requires-clause-rising c =
    let core : CoreParts = core_parts c.self.inside.server c.self.inside.ledger (map bare c.self.inside.clients.sessions) c.self.inside.clock in
    let ns = client_numbers (map bare c.self.inside.clients.sessions) in
    let ok = c.requires.held in
    let kept = c.self.invariant.kept in
    let given = map (λ (h : HeldLink). h.link) (held_in c.args.held.now) in
    let numbers : c.numbers-numbers.result.now ≡ client_numbers (map bare c.self.inside.clients.sessions) = c.numbers-numbers.ensures ∙ sym (numbers-bare c.self.inside.clients.sessions) in
    let links : c.in_ok-links.links.items ≡ map (λ (h : HeldLink). h.link) (held_in c.args.held.now) = c.in_ok-links.ensures in
    let interfaces : c.deref-2.result.now ≡ interfaces_on (map (λ (h : HeldLink). h.link) (held_in c.args.held.now)) (client_numbers (map bare c.self.inside.clients.sessions)) =
    c.deref-2.ensures.value ∙ (c.in_ok-interfaces.ensures ∙ ap₂ (λ ls xs. interfaces_on ls xs) (c.deref.ensures.value ∙ links) numbers) in
    let strict : IsStrictlyIncreasing (client_numbers (map bare c.self.inside.clients.sessions)) = subst IsStrictlyIncreasing (sym (numbers-bare c.self.inside.clients.sessions)) c.lemma_sorted.ensures in
    let rising = interfaces-rise given ns ok.rising (small-links (held_in c.args.held.now) (λ h m. ok.small h m)) strict (λ n m. (range-of core kept n m).0) in
    subst (IsRising nat_lt) (sym interfaces) rising

pub new-requires-clause-few : goal.new-requires-clause-few
new-requires-clause-few c =
    let core : CoreParts = core_parts c.self.inside.server c.self.inside.ledger (map bare c.self.inside.clients.sessions) c.self.inside.clock in
    let ns = client_numbers (map bare c.self.inside.clients.sessions) in
    let ok = c.requires.held in
    let kept = c.self.invariant.kept in
    let given = map (λ (h : HeldLink). h.link) (held_in c.args.held.now) in
    let numbers : c.numbers-numbers.result.now ≡ client_numbers (map bare c.self.inside.clients.sessions) = c.numbers-numbers.ensures ∙ sym (numbers-bare c.self.inside.clients.sessions) in
    let links : c.in_ok-links.links.items ≡ map (λ (h : HeldLink). h.link) (held_in c.args.held.now) = c.in_ok-links.ensures in
    let interfaces : c.deref-2.result.now ≡ interfaces_on (map (λ (h : HeldLink). h.link) (held_in c.args.held.now)) (client_numbers (map bare c.self.inside.clients.sessions)) =
    c.deref-2.ensures.value ∙ (c.in_ok-interfaces.ensures ∙ ap₂ (λ ls xs. interfaces_on ls xs) (c.deref.ensures.value ∙ links) numbers) in
    let strict : IsStrictlyIncreasing (client_numbers (map bare c.self.inside.clients.sessions)) = subst IsStrictlyIncreasing (sym (numbers-bare c.self.inside.clients.sessions)) c.lemma_sorted.ensures in
    let rising = interfaces-rise given ns ok.rising (small-links (held_in c.args.held.now) (λ h m. ok.small h m)) strict (λ n m. (range-of core kept n m).0) in
    let few = interfaces-few given ns rising (small-links (held_in c.args.held.now) (λ h m. ok.small h m)) (λ n m. (range-of core kept n m).1) in
    subst (λ z. length z < 4294967296) (sym interfaces) (omega (arith, few))

pub new-requires-clause-links : goal.new-requires-clause-links
new-requires-clause-links c =
    let core : CoreParts = core_parts c.self.inside.server c.self.inside.ledger (map bare c.self.inside.clients.sessions) c.self.inside.clock in
    let ns = client_numbers (map bare c.self.inside.clients.sessions) in
    let ok = c.requires.held in
    let kept = c.self.invariant.kept in
    let given = map (λ (h : HeldLink). h.link) (held_in c.args.held.now) in
    let numbers : c.numbers-numbers.result.now ≡ client_numbers (map bare c.self.inside.clients.sessions) = c.numbers-numbers.ensures ∙ sym (numbers-bare c.self.inside.clients.sessions) in
    let links : c.in_ok-links.links.items ≡ map (λ (h : HeldLink). h.link) (held_in c.args.held.now) = c.in_ok-links.ensures in
    let interfaces : c.deref-2.result.now ≡ interfaces_on (map (λ (h : HeldLink). h.link) (held_in c.args.held.now)) (client_numbers (map bare c.self.inside.clients.sessions)) =
    c.deref-2.ensures.value ∙ (c.in_ok-interfaces.ensures ∙ ap₂ (λ ls xs. interfaces_on ls xs) (c.deref.ensures.value ∙ links) numbers) in
    subst (λ z. c.len.result ≤ length z) (sym interfaces) (subst (λ z. z ≤ length (interfaces_on given ns)) (sym (c.len.ensures ∙ (sym c.deref.ensures.len ∙ (ap length c.deref.ensures.value ∙ ap length links)))) (links-first given (map (λ n. 64 + n) ns)))

pub put_links-requires-clause-interfaces : goal.put_links-requires-clause-interfaces
put_links-requires-clause-interfaces c =
    let core : CoreParts = core_parts c.self.inside.server c.self.inside.ledger (map bare c.self.inside.clients.sessions) c.self.inside.clock in
    let ns = client_numbers (map bare c.self.inside.clients.sessions) in
    let ok = c.requires.held in
    let kept = c.self.invariant.kept in
    let given = map (λ (h : HeldLink). h.link) (held_in c.args.held.now) in
    let numbers : c.numbers-numbers.result.now ≡ client_numbers (map bare c.self.inside.clients.sessions) = c.numbers-numbers.ensures ∙ sym (numbers-bare c.self.inside.clients.sessions) in
    let links : c.in_ok-links.links.items ≡ map (λ (h : HeldLink). h.link) (held_in c.args.held.now) = c.in_ok-links.ensures in
    let interfaces : c.deref-2.result.now ≡ interfaces_on (map (λ (h : HeldLink). h.link) (held_in c.args.held.now)) (client_numbers (map bare c.self.inside.clients.sessions)) =
    c.deref-2.ensures.value ∙ (c.in_ok-interfaces.ensures ∙ ap₂ (λ ls xs. interfaces_on ls xs) (c.deref.ensures.value ∙ links) numbers) in
    let e = c.in_ok-ledger.ensures in
    let whole : c.in_ok-ledger.ledger.interfaces ≡ interfaces_on (map (λ (h : HeldLink). h.link) (held_in c.args.held.now)) (client_numbers (map bare c.self.inside.clients.sessions)) = e.interfaces ∙ interfaces in
    let net : c.in_ok-ledger.ledger.net ≡ c.self.inside.ledger.net = e.net ∙ c.tables-tables.ensures in
    λ i m. subst (Has i) (sym whole) (front-has given (map (λ n. 64 + n) ns) i m)

pub put_links-requires-clause-net : goal.put_links-requires-clause-net
put_links-requires-clause-net c =
    let core : CoreParts = core_parts c.self.inside.server c.self.inside.ledger (map bare c.self.inside.clients.sessions) c.self.inside.clock in
    let ns = client_numbers (map bare c.self.inside.clients.sessions) in
    let ok = c.requires.held in
    let kept = c.self.invariant.kept in
    let given = map (λ (h : HeldLink). h.link) (held_in c.args.held.now) in
    let numbers : c.numbers-numbers.result.now ≡ client_numbers (map bare c.self.inside.clients.sessions) = c.numbers-numbers.ensures ∙ sym (numbers-bare c.self.inside.clients.sessions) in
    let links : c.in_ok-links.links.items ≡ map (λ (h : HeldLink). h.link) (held_in c.args.held.now) = c.in_ok-links.ensures in
    let interfaces : c.deref-2.result.now ≡ interfaces_on (map (λ (h : HeldLink). h.link) (held_in c.args.held.now)) (client_numbers (map bare c.self.inside.clients.sessions)) =
    c.deref-2.ensures.value ∙ (c.in_ok-interfaces.ensures ∙ ap₂ (λ ls xs. interfaces_on ls xs) (c.deref.ensures.value ∙ links) numbers) in
    let e = c.in_ok-ledger.ensures in
    let whole : c.in_ok-ledger.ledger.interfaces ≡ interfaces_on (map (λ (h : HeldLink). h.link) (held_in c.args.held.now)) (client_numbers (map bare c.self.inside.clients.sessions)) = e.interfaces ∙ interfaces in
    let net : c.in_ok-ledger.ledger.net ≡ c.self.inside.ledger.net = e.net ∙ c.tables-tables.ensures in
    λ h m. c.requires.net h m ∙ (ap (λ (z : CoreParts). z.net) (sym c.self.view_is) ∙ sym net)

pub put_clients-requires-clause-few : goal.put_clients-requires-clause-few
put_clients-requires-clause-few c =
    let core : CoreParts = core_parts c.self.inside.server c.self.inside.ledger (map bare c.self.inside.clients.sessions) c.self.inside.clock in
    let ns = client_numbers (map bare c.self.inside.clients.sessions) in
    let ok = c.requires.held in
    let kept = c.self.invariant.kept in
    let given = map (λ (h : HeldLink). h.link) (held_in c.args.held.now) in
    let numbers : c.numbers-numbers.result.now ≡ client_numbers (map bare c.self.inside.clients.sessions) = c.numbers-numbers.ensures ∙ sym (numbers-bare c.self.inside.clients.sessions) in
    λ n m. (range-of core kept n (subst (Has n) numbers m)).1

pub put_clients-requires-clause-interfaces : goal.put_clients-requires-clause-interfaces
put_clients-requires-clause-interfaces c =
    let core : CoreParts = core_parts c.self.inside.server c.self.inside.ledger (map bare c.self.inside.clients.sessions) c.self.inside.clock in
    let ns = client_numbers (map bare c.self.inside.clients.sessions) in
    let ok = c.requires.held in
    let kept = c.self.invariant.kept in
    let given = map (λ (h : HeldLink). h.link) (held_in c.args.held.now) in
    let numbers : c.numbers-numbers.result.now ≡ client_numbers (map bare c.self.inside.clients.sessions) = c.numbers-numbers.ensures ∙ sym (numbers-bare c.self.inside.clients.sessions) in
    let links : c.in_ok-links.links.items ≡ map (λ (h : HeldLink). h.link) (held_in c.args.held.now) = c.in_ok-links.ensures in
    let interfaces : c.deref-2.result.now ≡ interfaces_on (map (λ (h : HeldLink). h.link) (held_in c.args.held.now)) (client_numbers (map bare c.self.inside.clients.sessions)) =
    c.deref-2.ensures.value ∙ (c.in_ok-interfaces.ensures ∙ ap₂ (λ ls xs. interfaces_on ls xs) (c.deref.ensures.value ∙ links) numbers) in
    let e = c.in_ok-ledger.ensures in
    let whole : c.in_ok-ledger.ledger.interfaces ≡ interfaces_on (map (λ (h : HeldLink). h.link) (held_in c.args.held.now)) (client_numbers (map bare c.self.inside.clients.sessions)) = e.interfaces ∙ interfaces in
    let net : c.in_ok-ledger.ledger.net ≡ c.self.inside.ledger.net = e.net ∙ c.tables-tables.ensures in
    λ n m. subst (Has (64 + n)) (sym (c.in_ok-put_links.ensures.interfaces ∙ whole)) (back-has given (map (λ k. 64 + k) ns) (64 + n) (map-has (λ k. 64 + k) ns n (subst (Has n) numbers m)))

pub put_clients-requires-clause-net : goal.put_clients-requires-clause-net
put_clients-requires-clause-net c =
    let core : CoreParts = core_parts c.self.inside.server c.self.inside.ledger (map bare c.self.inside.clients.sessions) c.self.inside.clock in
    let ns = client_numbers (map bare c.self.inside.clients.sessions) in
    let ok = c.requires.held in
    let kept = c.self.invariant.kept in
    let given = map (λ (h : HeldLink). h.link) (held_in c.args.held.now) in
    let numbers : c.numbers-numbers.result.now ≡ client_numbers (map bare c.self.inside.clients.sessions) = c.numbers-numbers.ensures ∙ sym (numbers-bare c.self.inside.clients.sessions) in
    let links : c.in_ok-links.links.items ≡ map (λ (h : HeldLink). h.link) (held_in c.args.held.now) = c.in_ok-links.ensures in
    let interfaces : c.deref-2.result.now ≡ interfaces_on (map (λ (h : HeldLink). h.link) (held_in c.args.held.now)) (client_numbers (map bare c.self.inside.clients.sessions)) =
    c.deref-2.ensures.value ∙ (c.in_ok-interfaces.ensures ∙ ap₂ (λ ls xs. interfaces_on ls xs) (c.deref.ensures.value ∙ links) numbers) in
    let e = c.in_ok-ledger.ensures in
    let whole : c.in_ok-ledger.ledger.interfaces ≡ interfaces_on (map (λ (h : HeldLink). h.link) (held_in c.args.held.now)) (client_numbers (map bare c.self.inside.clients.sessions)) = e.interfaces ∙ interfaces in
    let net : c.in_ok-ledger.ledger.net ≡ c.self.inside.ledger.net = e.net ∙ c.tables-tables.ensures in
    sym (c.in_ok-put_links.ensures.net ∙ net)

pub returns-clause-linked : goal.returns-clause-linked
returns-clause-linked c =
    let core : CoreParts = core_parts c.self.inside.server c.self.inside.ledger (map bare c.self.inside.clients.sessions) c.self.inside.clock in
    let ns = client_numbers (map bare c.self.inside.clients.sessions) in
    let ok = c.requires.held in
    let kept = c.self.invariant.kept in
    let given = map (λ (h : HeldLink). h.link) (held_in c.args.held.now) in
    let numbers : c.numbers-numbers.result.now ≡ client_numbers (map bare c.self.inside.clients.sessions) = c.numbers-numbers.ensures ∙ sym (numbers-bare c.self.inside.clients.sessions) in
    let links : c.in_ok-links.links.items ≡ map (λ (h : HeldLink). h.link) (held_in c.args.held.now) = c.in_ok-links.ensures in
    let interfaces : c.deref-2.result.now ≡ interfaces_on (map (λ (h : HeldLink). h.link) (held_in c.args.held.now)) (client_numbers (map bare c.self.inside.clients.sessions)) =
    c.deref-2.ensures.value ∙ (c.in_ok-interfaces.ensures ∙ ap₂ (λ ls xs. interfaces_on ls xs) (c.deref.ensures.value ∙ links) numbers) in
    let e = c.in_ok-ledger.ensures in
    let whole : c.in_ok-ledger.ledger.interfaces ≡ interfaces_on (map (λ (h : HeldLink). h.link) (held_in c.args.held.now)) (client_numbers (map bare c.self.inside.clients.sessions)) = e.interfaces ∙ interfaces in
    let net : c.in_ok-ledger.ledger.net ≡ c.self.inside.ledger.net = e.net ∙ c.tables-tables.ensures in
    let first = c.in_ok-ledger.ledger in
    let mid = c.put_links.new.ledger in
    let new = c.put_clients.new.ledger in
    let known-filters : (i : ℕ) (x : List ConstraintParts) → Has x (subs c.self.inside.ledger.control i) → Has i (interfaces_on c.self.inside.ledger.control.links (client_numbers (map bare c.self.inside.clients.sessions))) =
    λ i x m. subst (Has i) c.self.invariant.whole (c.lemma_sound.ensures.filters i x m) in
    let known-adverts : (i : ℕ) (x : List ConstraintParts) → Has x (advs c.self.inside.ledger.control i) → Has i (interfaces_on c.self.inside.ledger.control.links (client_numbers (map bare c.self.inside.clients.sessions))) =
    λ i x m. subst (Has i) c.self.invariant.whole (c.lemma_sound.ensures.adverts i x m) in
    let first-are : c.in_ok-ledger.ledger.control.links ≡ map (λ (h : HeldLink). h.link) (held_in c.args.held.now) =
    ap (λ (z : Controlled). z.links) e.control ∙ (ap₂ (λ n xs. take n xs) (c.len.ensures ∙ (sym c.deref.ensures.len ∙ (ap length c.deref.ensures.value ∙ ap length links))) interfaces ∙ take-append_seam given (map (λ n. 64 + n) ns)) in
    let clients : ArePut (held_by_clients c.self.inside.ledger.control (client_numbers (map bare c.self.inside.clients.sessions))) c.put_links.new.ledger c.put_clients.new.ledger =
    subst (λ z. ArePut (held_by_clients c.self.inside.ledger.control z) c.put_links.new.ledger c.put_clients.new.ledger) numbers c.in_ok-put_clients.ensures in
    subst (λ (z : CoreParts). IsLinked (held_in c.args.held.now) z.control new.control) c.self.view_is (made-linked core (held_in c.args.held.now) first mid new ok kept known-filters known-adverts (ap (λ (z : Controlled). z.filters) e.control) (ap (λ (z : Controlled). z.adverts) e.control) first-are c.in_ok-put_links.ensures clients)

pub returns-clause-suits : goal.returns-clause-suits
returns-clause-suits c =
    let core : CoreParts = core_parts c.self.inside.server c.self.inside.ledger (map bare c.self.inside.clients.sessions) c.self.inside.clock in
    let ns = client_numbers (map bare c.self.inside.clients.sessions) in
    let ok = c.requires.held in
    let kept = c.self.invariant.kept in
    let given = map (λ (h : HeldLink). h.link) (held_in c.args.held.now) in
    let numbers : c.numbers-numbers.result.now ≡ client_numbers (map bare c.self.inside.clients.sessions) = c.numbers-numbers.ensures ∙ sym (numbers-bare c.self.inside.clients.sessions) in
    let links : c.in_ok-links.links.items ≡ map (λ (h : HeldLink). h.link) (held_in c.args.held.now) = c.in_ok-links.ensures in
    let interfaces : c.deref-2.result.now ≡ interfaces_on (map (λ (h : HeldLink). h.link) (held_in c.args.held.now)) (client_numbers (map bare c.self.inside.clients.sessions)) =
    c.deref-2.ensures.value ∙ (c.in_ok-interfaces.ensures ∙ ap₂ (λ ls xs. interfaces_on ls xs) (c.deref.ensures.value ∙ links) numbers) in
    let e = c.in_ok-ledger.ensures in
    let whole : c.in_ok-ledger.ledger.interfaces ≡ interfaces_on (map (λ (h : HeldLink). h.link) (held_in c.args.held.now)) (client_numbers (map bare c.self.inside.clients.sessions)) = e.interfaces ∙ interfaces in
    let net : c.in_ok-ledger.ledger.net ≡ c.self.inside.ledger.net = e.net ∙ c.tables-tables.ensures in
    let first = c.in_ok-ledger.ledger in
    let mid = c.put_links.new.ledger in
    let new = c.put_clients.new.ledger in
    let known-filters : (i : ℕ) (x : List ConstraintParts) → Has x (subs c.self.inside.ledger.control i) → Has i (interfaces_on c.self.inside.ledger.control.links (client_numbers (map bare c.self.inside.clients.sessions))) =
    λ i x m. subst (Has i) c.self.invariant.whole (c.lemma_sound.ensures.filters i x m) in
    let known-adverts : (i : ℕ) (x : List ConstraintParts) → Has x (advs c.self.inside.ledger.control i) → Has i (interfaces_on c.self.inside.ledger.control.links (client_numbers (map bare c.self.inside.clients.sessions))) =
    λ i x m. subst (Has i) c.self.invariant.whole (c.lemma_sound.ensures.adverts i x m) in
    let first-are : c.in_ok-ledger.ledger.control.links ≡ map (λ (h : HeldLink). h.link) (held_in c.args.held.now) =
    ap (λ (z : Controlled). z.links) e.control ∙ (ap₂ (λ n xs. take n xs) (c.len.ensures ∙ (sym c.deref.ensures.len ∙ (ap length c.deref.ensures.value ∙ ap length links))) interfaces ∙ take-append_seam given (map (λ n. 64 + n) ns)) in
    let clients : ArePut (held_by_clients c.self.inside.ledger.control (client_numbers (map bare c.self.inside.clients.sessions))) c.put_links.new.ledger c.put_clients.new.ledger =
    subst (λ z. ArePut (held_by_clients c.self.inside.ledger.control z) c.put_links.new.ledger c.put_clients.new.ledger) numbers c.in_ok-put_clients.ensures in
    subst (λ (z : CoreParts). SuitsCore z new) c.self.view_is (made-suits core (held_in c.args.held.now) first mid new ok kept known-filters known-adverts (ap (λ (z : Controlled). z.filters) e.control) (ap (λ (z : Controlled). z.adverts) e.control) first-are c.in_ok-put_links.ensures clients net (ap (λ (z : Controlled). z.semantics) e.control ∙ c.semantics-semantics.ensures) whole)

pub returns-clause-installed : goal.returns-clause-installed
returns-clause-installed c =
    c.in_ok-put_clients.ensures.installed ∙ (c.in_ok-put_links.ensures.installed ∙ c.in_ok-ledger.ensures.installed)
