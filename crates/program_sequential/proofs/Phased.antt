-- Proves that the id of a delivery determines its phase.
use Rattle.std.proofs.Common.{◌≡◌, ℕ, zero, suc, ◌≤◌, List, [], ◌∷◌, slice_get, Some, refl, sym, ap, subst, arith}
use Rattle.std.proofs.lemmas.Option.{same_Some}
use Rattle.base.specs.Sets.{Has}
use Rattle.law_routing.specs.Server.{Publication}
use Rattle.law_routing.specs.Owed.{IsPublication}
use Rattle.law_routing.proofs.Current.{one-publication}
use Rattle.law_phases.specs.Trees.{PhasedNet, PhasedNetLaws, net_at}
use Rattle.law_phases.specs.Owing.{IsPublishedIn}
use Rattle.law_phases.specs.Sequence.{StandsBefore, AreByPhase}
use Rattle.law_phases.proofs.Pieces.{published-at}
use Rattle.net_model.specs.Real.{real, real_laws}
use Rattle.filter_text.specs.declared.id.Id.{Id}
use Rattle.net_model.specs.Meaning.{deliveries_of}
use Rattle.program_sequential.specs.Promise.{id_of, ids_of}
use Rattle.base.proofs.Sets.{get-has}

-- an id stands where its publication does
placed : (inbox : List (Publication real)) (i : ℕ) (id : Id) → slice_get (ids_of (deliveries_of inbox)) i ≡ Some id → (x : Publication real) × (slice_get inbox i ≡ Some x) × (id_of x ≡ id)
placed [] i id e = absurd cc
placed (x ∷ inbox) zero id e = (x, refl, same_Some _ _ e)
placed (x ∷ inbox) (suc i) id e = placed inbox i id e

-- one id has one phase
one-phase : (net : PhasedNet real) → PhasedNetLaws real net → (x p : Publication real) (k l : ℕ) → id_of x ≡ id_of p → IsPublishedIn real net k x → IsPublishedIn real net l p → k ≡ l
one-phase net laws x p k l e a b =
    (one-publication real (net_at real net l) p.publisher p.ordinal k l x.notice p.notice
    (subst (λ (z : Id). IsPublication real (net_at real net l) z.publisher z.ordinal k x.notice) e (published-at real real_laws net laws k l x.publisher x.ordinal k x.notice a)) b).0

pub by-phase-ids : (net : PhasedNet real) → PhasedNetLaws real net → (inbox : List (Publication real)) → AreByPhase real net inbox → ((p : Publication real) → Has p inbox → (k : ℕ) × IsPublishedIn real net k p)
    → (one other : Publication real) (phase next : ℕ) → StandsBefore (ids_of (deliveries_of inbox)) (id_of one) (id_of other) → IsPublishedIn real net phase one → IsPublishedIn real net next other → phase ≤ next
by-phase-ids net laws inbox ordered published one other phase next s p q =
    let x = placed inbox s.place (id_of one) s.here in
    let y = placed inbox s.later (id_of other) s.there in
    let a = published x.0 (get-has inbox s.place x.0 x.1) in
    let b = published y.0 (get-has inbox s.later y.0 y.1) in
    let up : a.0 ≤ b.0 = ordered x.0 y.0 a.0 b.0 (record { place = s.place; later = s.later; before = s.before; here = x.1; there = y.1 }) a.1 b.1 in
    omega (arith, up, one-phase net laws x.0 one a.0 phase x.2 a.1 p, one-phase net laws y.0 other b.0 next y.2 b.1 q)
