-- A link of a hierarchy never carries more notifications than plain flooding puts on it.
use Rattle.std.proofs.Common.{◌≡◌, ℕ, suc, ◌+◌, ◌==◌, Bool, true, false, cond, List, [], ◌∷◌, inl, inr, length, take, Some, refl, sym, ap, subst, ◌∙◌, arith}
use Rattle.base.specs.Sets.{Has}
use Rattle.base.specs.Numbers.{IsDistinct, sum_over, count}
use Rattle.base.proofs.Numbers.{Same, Is, Not, compare, sum_over-same}
use Rattle.base.proofs.Sets.{get-has, map-has}
use Rattle.base_tree.specs.Hops.{side}
use Rattle.law_machine.specs.Machine.{Stamped}
use Rattle.law_routing.specs.Theory.{Theory, TheoryLaws}
use Rattle.law_routing.specs.Net.{Net}
use Rattle.law_routing.specs.Clients.{ordinal}
use Rattle.law_routing.specs.Server.{Message, Subs, Advs, Noticed}
use Rattle.law_routing.specs.Order.{IsAccepted, ordinals_put, add_ordinal}
use Rattle.law_phases.specs.Economy.{is_noticed}
use Rattle.law_phases.proofs.Publishing.{accepted, as-many, is-accepted}
use Rattle.law_phases.proofs.Sums.{rising-within, sum-le, sum-zero, sum-both, sum-one}
use Rattle.law_routing.proofs.Started.{authentic-run}
use Rattle.law_hierarchy.specs.Masters.{top}
use Rattle.law_hierarchy.specs.HierarchyRun.{HierarchyRun, states}
use Rattle.law_hierarchy.specs.Economy.{AreClients, CarriesNoMore, flooded_by}
use Rattle.law_hierarchy.proofs.Wide.{wide, wide-laws}
use Rattle.law_hierarchy.proofs.Listener.{peers}
use Rattle.law_hierarchy.proofs.Shadow.{sent-on}
use Rattle.law_hierarchy.proofs.Networks.{stamped-on}
use Rattle.law_hierarchy.proofs.Listened.{peer-run, h, moments}
use Rattle.law_hierarchy.proofs.Carried.{put-same, accepts-off}
use Rattle.law_hierarchy.proofs.Given.{authentic, orderly, put-rises}

abbrev noticed-in : (th : Theory) → List (Stamped (Message th)) → ℕ
noticed-in th xs = sum_over (λ x. count (is_noticed th x.message)) xs

module _ (th : Theory) (net : Net th) (clients : List ℕ) (single : IsDistinct clients) where
  -- the notifications of a link are those of all publishers
  by-publishers : (xs : List (Stamped (Message th))) → ((x : Stamped (Message th)) (q o : ℕ) (n : th.Notice) → Has x xs → x.message ≡ Noticed q o n → Has q clients)
      → noticed-in th xs ≡ sum_over (λ q. length (ordinals_put th net q xs)) clients
  by-publishers [] known = sym (sum-zero clients)
  by-publishers (x ∷ xs) known = go x.message refl (by-publishers xs (λ y q o n i e. known y q o n (inr i) e))
    where
      go : (m : Message th) → x.message ≡ m → noticed-in th xs ≡ sum_over (λ q. length (ordinals_put th net q xs)) clients
          → count (is_noticed th m) + noticed-in th xs ≡ sum_over (λ q. length (add_ordinal th net q m (ordinals_put th net q xs))) clients
      go (Subs out add) e ih = omega (arith, ih)
      go (Advs out add) e ih = omega (arith, ih)
      go (Noticed p o n) e ih = omega (
        arith,
        ih,
        sum-one p o clients (known x p o n (inl refl) e) single,
        sum-both (λ q. length (cond (q == p) (o ∷ []) [])) (λ q. length (ordinals_put th net q xs)) clients,
        sum_over-same (λ q. length (cond (q == p) (o ∷ ordinals_put th net q xs) (ordinals_put th net q xs))) (λ q. length (cond (q == p) (o ∷ []) []) + length (ordinals_put th net q xs)) clients (λ q i. longer (q == p) (ordinals_put th net q xs)),
      )
        where
          longer : (b : Bool) (os : List ℕ) → length (cond b (o ∷ os) os) ≡ length (cond b (o ∷ []) []) + length os
          longer true os = omega arith
          longer false os = omega arith

  -- what stands among a publisher's ordinals is a notification of it
  record Stands (q o : ℕ) (xs : List (Stamped (Message th))) : Type 0 where
    message : Stamped (Message th)
    notice : th.Notice
    among : Has message xs
    is : message.message ≡ Noticed q o notice

  stands : (q o : ℕ) (xs : List (Stamped (Message th))) → Has o (ordinals_put th net q xs) → Stands q o xs
  stands q o [] has = absurd has
  stands q o (x ∷ xs) has = go x.message refl has (stands q o xs)
    where
      later : Stands q o xs → Stands q o (x ∷ xs)
      later s = record { message = s.message; notice = s.notice; among = inr s.among; is = s.is }

      go : (m : Message th) → x.message ≡ m → Has o (add_ordinal th net q m (ordinals_put th net q xs)) → (Has o (ordinals_put th net q xs) → Stands q o xs) → Stands q o (x ∷ xs)
      go (Subs out add) e has ih = later (ih has)
      go (Advs out add) e has ih = later (ih has)
      go (Noticed p k n) e has ih = by (compare q p) has
        where
          by : Same q p → Has o (cond (q == p) (k ∷ ordinals_put th net q xs) (ordinals_put th net q xs)) → Stands q o (x ∷ xs)
          by (Is f v) has = elim (subst (λ b. Has o (cond b (k ∷ ordinals_put th net q xs) (ordinals_put th net q xs))) v has) [
            | inl i ↦ record { message = x; notice = n; among = inl refl; is = e ∙ (λ j. Noticed (sym f j) (sym i j) n) }
            | inr i ↦ later (ih i)
          ]
          by (Not f v) has = later (ih (subst (λ b. Has o (cond b (k ∷ ordinals_put th net q xs) (ordinals_put th net q xs))) v has))

module _ (th : Theory) (laws : TheoryLaws th) (run : HierarchyRun th) (clients : List ℕ) (known : AreClients th run.net clients) where
  abbrev put : ℕ → ℕ → ℕ → List (Stamped (Message th))
  put n from to = (h th laws run n).put from to

  publisher-known : (n q o from to : ℕ) (k : th.Notice) → IsAccepted th run.net (states th run n) q o k → Has q clients
  publisher-known n q o from to k a = known.each q a.command (get-has (run.net.script q) a.index a.command a.at)

  -- the ordinals of a client's publications that flooding sends over the link
  abbrev sent_by_flooding : ℕ → ℕ → ℕ → List ℕ
  sent_by_flooding from to q = accepted th run.net (λ phase. side run.net.hop to from (run.net.home q)) [] 0 (run.net.script q)

  -- what is put on a link comes from its side
  flooded-too : (n from to q o : ℕ) → Has to (run.net.links from) → Has o (ordinals_put th run.net q (put n from to)) → Has o (sent_by_flooding from to q)
  flooded-too n from to q o near has =
      let s = stands th run.net clients known.single q o (put n from to) has in
      let a = (authentic th laws run n).put from to s.message q o s.notice s.among s.is in
      is-accepted th run.net (λ phase. side run.net.hop to from (run.net.home q)) [] 0 (run.net.script q) a.index a.command s.notice o a.at a.publishes (from-zero (ordinal th (take (suc a.index) (run.net.script q))) ∙ a.ordinal) a.allowed
      (away (side run.net.hop to from (run.net.home q)) refl)
    where
      from-zero : (k : ℕ) → 0 + k ≡ k
      from-zero k = omega arith

      away : (b : Bool) → side run.net.hop to from (run.net.home q) ≡ b → side run.net.hop to from (run.net.home q) ≡ true
      away true e = e
      away false e = absurd (subst (Has o) none has)
        where
          own : (peers th run.net).home q ≡ run.net.home q
          own =
              let s = stands th run.net clients known.single q o (put n from to) has in
              let there = subst (Has (stamped-on th laws run.net run.laws s.message)) (sym ((moments th laws run n).network.put from to)) (map-has (stamped-on th laws run.net run.laws) (put n from to) s.message s.among) in
              let x = (authentic-run (wide th) (wide-laws th laws) (peer-run th laws run) n).put from to (stamped-on th laws run.net run.laws s.message) q o (Some s.notice) there (ap (sent-on th) s.is) in
              ap (λ z. cond z top (run.net.home q)) (accepts-off th laws run.net run.laws q x.index x.command s.notice x.at x.publishes).own

          none : ordinals_put th run.net q (put n from to) ≡ []
          none = sym (ap (ordinals_put (wide th) (peers th run.net) q) ((moments th laws run n).network.put from to) ∙ put-same th laws run.net run.laws q (put n from to))
              ∙ (orderly th laws run q n).away from to near (subst (λ z. side run.net.hop to from z ≡ false) (sym own) e)

  pub never-more : CarriesNoMore th run clients
  never-more n from to near =
      let each = sum-le (λ q. length (ordinals_put th run.net q (put n from to))) (flooded_by th run.net from to) clients (λ q i.
      (let l = rising-within (ordinals_put th run.net q (put n from to)) (sent_by_flooding from to q) (put-rises th laws run q n from to) (λ o has. flooded-too n from to q o near has) in
      omega (arith, l, as-many th run.net (λ phase. side run.net.hop to from (run.net.home q)) [] 0 (run.net.script q)))) in
      omega (arith, each, by-publishers th run.net clients known.single (put n from to) (λ x q o k i e. publisher-known n q o from to k ((authentic th laws run n).put from to x q o k i e)))
