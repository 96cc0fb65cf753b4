-- The sessions of a server's clients, which stand by rising numbers.
use Rattle.std.proofs.Common.{◌≡◌, ◌⊎◌, inl, inr, ℕ, zero, suc, ◌+◌, ◌-◌, ◌<◌, ◌≤◌, ◌==◌, Bool, true, false, List, [], ◌∷◌, ◌++◌, length, map, Some, Result, Ok, Err, MatchResult, get_or, set, slice_get, IfSome, IfNone, IfOk, OnOk, OnErr, refl, sym, ap, subst, ◌∙◌, arith}
use Rattle.std.specs.Prelude.{slice_index}
use Rattle.std.specs.Result.{result_ok}
use Rattle.std.specs.List.Sorted.{IsStrictlyIncreasing}
use Rattle.std.proofs.lemmas.List.{length-map}
use Rattle.std.proofs.lemmas.Bool.{eq-eqb}
use Rattle.std.proofs.lemmas.Option.{same_Some}
use Rattle.base.specs.declared.memory.NoMemory.{NoMemory}
use Rattle.base.specs.Sets.{Has}
use Rattle.filter_text.specs.Deliveries.{Delivery}
use Rattle.net_model.specs.Parts.{NetParts}
use Rattle.server_session.specs.declared.planned.Planned.{Planned}
use Rattle.server_session.specs.declared.planned.Planned.TheVariants.{Filters, Adverts, Publish, Refused}
use Rattle.server_session.specs.Session.{NetSession, PlansNext, IsCounted}
use Rattle.server_spec.specs.Session.{SessionParts, session_parts}
use Rattle.server_core.specs.Clients.{bare, client_numbers, at_client, handed, sessions_in, AreOf}
use Rattle.base.proofs.Lists.{get-get_or, map-set, get-map}
use Rattle.base.proofs.Sets.{get-has, map-has, increasing-rest, increasing-above}
use Rattle.match_routes.proofs.Searching.{IsFound}
use Rattle.base.proofs.Numbers.{neq-eqb}

-- lists

-- what is put in is there
pub put-there : {X : Type 0} (xs : List X) (i : ℕ) (s t : X) → slice_get xs i ≡ Some s → Has t (set xs i t)
put-there [] i s t e = absurd cc
put-there (x ∷ xs) zero s t e = inl refl
put-there (x ∷ xs) (suc i) s t e = inr (put-there xs i s t e)

pub put-has : {X : Type 0} (xs : List X) (i : ℕ) (t y : X) → Has y (set xs i t) → (y ≡ t) ⊎ Has y xs
put-has [] i t y m = absurd m
put-has (x ∷ xs) zero t y (inl q) = inl q
put-has (x ∷ xs) zero t y (inr m) = inr (inr m)
put-has (x ∷ xs) (suc i) t y (inl q) = inr (inl q)
put-has (x ∷ xs) (suc i) t y (inr m) = elim (put-has xs i t y m) [ inl q ↦ inl q | inr k ↦ inr (inr k) ]

-- a test that is alike at what is put in and at what was there
pub map-put : {X Y : Type 0} (f : X → Y) (xs : List X) (i : ℕ) (s t : X) → slice_get xs i ≡ Some s → f t ≡ f s → map f (set xs i t) ≡ map f xs
map-put f [] i s t e q = absurd cc
map-put f (x ∷ xs) zero s t e q = ap (λ z. z ∷ map f xs) (q ∙ ap f (sym (same_Some _ _ e)))
map-put f (x ∷ xs) (suc i) s t e q = ap (λ z. f x ∷ z) (map-put f xs i s t e q)

-- rising numbers

-- what a search found

number-at : (ss : List SessionParts) (i : ℕ) (s : SessionParts) → slice_get ss i ≡ Some s → get_or (client_numbers ss) i 0 ≡ s.client
number-at [] i s e = absurd cc
number-at (t ∷ ss) zero s e = ap (λ z. z.client) (same_Some _ _ e)
number-at (t ∷ ss) (suc i) s e = number-at ss i s e

pub found-session : (ss : List SessionParts) (x : ℕ) (r : Result ℕ ℕ) → IsFound (client_numbers ss) x r → IfSome (result_ok r) (λ i. (s : SessionParts) → slice_get ss i ≡ Some s → s.client ≡ x)
found-session ss x (Ok i) f = λ s e. sym (number-at ss i s e) ∙ f.1
found-session ss x (Err i) f = tt

-- sessions by rising numbers

-- a client that isn't there changes nothing
pub absent-at : (c : ℕ) (f : SessionParts → SessionParts) (ss : List SessionParts) → (Has c (client_numbers ss) → ⊥) → at_client c f ss ≡ ss
absent-at c f [] n = refl
absent-at c f (s ∷ ss) n = rw (neq-eqb s.client c (λ e. n (inl (sym e))), absent-at c f ss (λ m. n (inr m))) refl

-- a session changed at its place is its client's session changed
pub put-at : (c : ℕ) (f : SessionParts → SessionParts) (ss : List SessionParts) (i : ℕ) (s : SessionParts) → slice_get ss i ≡ Some s → s.client ≡ c → IsStrictlyIncreasing (client_numbers ss) → set ss i (f s) ≡ at_client c f ss
put-at c f [] i s e q h = absurd cc
put-at c f (t ∷ ss) zero s e q h =
    let one : t ≡ s = same_Some _ _ e in
    let there : (t.client == c) ≡ true = eq-eqb t.client c (ap (λ z. z.client) one ∙ q) in
    let rest : at_client c f ss ≡ ss = absent-at c f ss (λ m. let more = increasing-above t.client (client_numbers ss) h c m in absurd (omega (arith, more, ap (λ z. z.client) one ∙ q))) in
    rw (there, rest) (ap (λ z. f z ∷ ss) (sym one))
put-at c f (t ∷ ss) (suc i) s e q h =
    let more = increasing-above t.client (client_numbers ss) h s.client (map-has (λ z. z.client) ss s (get-has ss i s e)) in
    let other : (t.client == c) ≡ false = neq-eqb t.client c (λ k. omega (arith, more, q, k)) in
    rw other (ap (λ z. t ∷ z) (put-at c f ss i s e q (increasing-rest t.client (client_numbers ss) h)))

-- each client has one session
pub only : (ss : List SessionParts) → IsStrictlyIncreasing (client_numbers ss) → (s t : SessionParts) → Has s ss → Has t ss → s.client ≡ t.client → s ≡ t
only [] h s t m n q = absurd m
only (u ∷ ss) h s t (inl a) (inl b) q = a ∙ sym b
only (u ∷ ss) h s t (inl a) (inr n) q =
    let more = increasing-above u.client (client_numbers ss) h t.client (map-has (λ z. z.client) ss t n) in
    absurd (omega (arith, more, q, ap (λ z. z.client) a))
only (u ∷ ss) h s t (inr m) (inl b) q =
    let more = increasing-above u.client (client_numbers ss) h s.client (map-has (λ z. z.client) ss s m) in
    absurd (omega (arith, more, q, ap (λ z. z.client) b))
only (u ∷ ss) h s t (inr m) (inr n) q = only ss (increasing-rest u.client (client_numbers ss) h) s t m n q

-- what a place is known for
pub record IsPlace (net : NetParts) (ss : List NetSession) (now : List SessionParts) (ns : List ℕ) (i c : ℕ) (s : NetSession) : Type 0 where
  pub view : sessions_in ss ≡ now
  pub numbered : client_numbers (sessions_in ss) ≡ ns
  pub rising : IsStrictlyIncreasing ns
  pub of : AreOf net ss
  pub within : i < length now
  pub client : (t : SessionParts) → slice_get now i ≡ Some t → t.client ≡ c
  pub read : s ≡ get_or ss i s

module _ {net : NetParts} {ss : List NetSession} {now : List SessionParts} {ns : List ℕ} {i c : ℕ} {s : NetSession} (p : IsPlace net ss now ns i c s) where
  long : length now ≡ length ss
  long = ap length (sym p.view) ∙ length-map ss (λ (z : NetSession). z.session)

  pub at-place : slice_get ss i ≡ Some s
  at-place = let l = long in get-get_or ss i s (omega (arith, p.within, l)) p.read

  at-now : slice_get (sessions_in ss) i ≡ Some s.session
  at-now = get-map (λ (z : NetSession). z.session) ss i s at-place

  pub its-client : s.session.client ≡ c
  its-client = p.client s.session (subst (λ z. slice_get z i ≡ Some s.session) p.view at-now)

  pub its-net : s.net ≡ net
  its-net = p.of s (get-has ss i s at-place)

  all-rise : IsStrictlyIncreasing (client_numbers (sessions_in ss))
  all-rise = subst IsStrictlyIncreasing (sym p.numbered) p.rising

  pub is-there : Has s.session now
  is-there = subst (λ z. Has s.session z) p.view (get-has (sessions_in ss) i s.session at-now)

  pub changed : (f : SessionParts → SessionParts) (t : NetSession) → t.session ≡ f s.session → sessions_in (set ss i t) ≡ at_client c f now
  changed f t e =
      map-set (λ (z : NetSession). z.session) ss i t
      ∙ subst (λ z. set (sessions_in ss) i z ≡ at_client c f now) (sym e) (put-at c f (sessions_in ss) i s.session at-now its-client all-rise ∙ ap (at_client c f) p.view)

  pub kept-numbers : (t : NetSession) → t.session.client ≡ s.session.client → client_numbers (sessions_in (set ss i t)) ≡ ns
  kept-numbers t e =
      ap client_numbers (map-set (λ (z : NetSession). z.session) ss i t) ∙ (map-put (λ z. z.client) (sessions_in ss) i s.session t.session at-now e ∙ p.numbered)

  pub kept-net : (t : NetSession) → t.net ≡ s.net → AreOf net (set ss i t)
  kept-net t e u m = elim (put-has ss i t u m) [
    | inl q ↦ ap (λ (z : NetSession). z.net) q ∙ (e ∙ its-net)
    | inr k ↦ p.of u k
  ]

  pub kept-bare : (t : NetSession) → bare t.session ≡ bare s.session → map bare (sessions_in (set ss i t)) ≡ map bare now
  kept-bare t e = ap (map bare) (map-set (λ (z : NetSession). z.session) ss i t) ∙ (map-put bare (sessions_in ss) i s.session t.session at-now e ∙ ap (map bare) p.view)

  pub put-in-has : (t : NetSession) (u : SessionParts) → Has u (sessions_in (set ss i t)) → (u ≡ t.session) ⊎ Has u now
  put-in-has t u m = elim (put-has (sessions_in ss) i t.session u (subst (Has u) (map-set (λ (z : NetSession). z.session) ss i t) m)) [
    | inl q ↦ inl q
    | inr k ↦ inr (subst (Has u) p.view k)
  ]

  pub the-one : (t : SessionParts) → Has t now → t.client ≡ c → t ≡ s.session
  the-one t m e = only (sessions_in ss) all-rise t s.session (subst (λ z. Has t z) (sym p.view) m) (get-has (sessions_in ss) i s.session at-now) (e ∙ sym its-client)

  pub the-new : (t : NetSession) (u : SessionParts) → t.session.client ≡ s.session.client → Has u (sessions_in (set ss i t)) → u.client ≡ c → u ≡ t.session
  the-new t u e m q =
      only (sessions_in (set ss i t)) (subst IsStrictlyIncreasing (sym (kept-numbers t e)) p.rising) u t.session m
      (subst (Has t.session) (sym (map-set (λ (z : NetSession). z.session) ss i t)) (put-there (sessions_in ss) i s.session t.session at-now)) (q ∙ sym its-client ∙ sym e)

-- a session after its calls

pub handed-is : (d : Delivery) (s t : SessionParts) → t.inbox ≡ s.inbox ++ d ∷ [] → t.room + 1 ≡ s.room → record t { inbox = s.inbox; room = s.room } ≡ s → t ≡ handed d s
handed-is d s t i r e = subst (λ (z : SessionParts). t ≡ session_parts z.client z.semantics z.script z.taken (s.inbox ++ d ∷ []) (s.room - 1) z.planned) e (first ∙ second)
  where
    less : t.room ≡ s.room - 1
    less = omega (arith, r)

    first : t ≡ session_parts t.client t.semantics t.script t.taken (s.inbox ++ d ∷ []) t.room t.planned
    first = ap (λ z. session_parts t.client t.semantics t.script t.taken z t.room t.planned) i

    second : session_parts t.client t.semantics t.script t.taken (s.inbox ++ d ∷ []) t.room t.planned ≡ session_parts t.client t.semantics t.script t.taken (s.inbox ++ d ∷ []) (s.room - 1) t.planned
    second = ap (λ z. session_parts t.client t.semantics t.script t.taken (s.inbox ++ d ∷ []) z t.planned) less

pub planned-or : (r : Result Planned NoMemory) (s t : NetSession) → OnOk r (t.session ≡ record s.session { planned = true }) → OnErr r (t ≡ s) → bare t.session ≡ bare s.session
planned-or (Ok p) s t a b = ap bare a
planned-or (Err e) s t a b = ap (λ (z : NetSession). bare z.session) b

-- what is planned of a session does not ask whether it is
pub plans-alike : (net : NetParts) (s : SessionParts) (b : Bool) (p : Planned) → PlansNext net (record s { planned = b }) p → PlansNext net s p
plans-alike net s b (Filters moved) h = h
plans-alike net s b (Adverts moved) h = h
plans-alike net s b (Publish id k) h = h
plans-alike net s b (Refused o) h = h

pub planned-of : (r : Result Planned NoMemory) (net : NetParts) (s t : NetSession) → IfOk r (PlansNext t.net t.session) → t.net ≡ net → OnOk r (t.session ≡ record s.session { planned = true })
    → IfOk r (λ p. PlansNext net s.session p)
planned-of (Ok p) net s t plan e ok = plans-alike net s.session true p (subst (λ z. PlansNext net z p) ok (subst (λ z. PlansNext z t.session p) e plan))
planned-of (Err f) net s t plan e ok = tt

pub counted-of : (r : Result Planned NoMemory) (client : ℕ) (t : NetSession) → IfOk r (IsCounted t.session.client) → t.session.client ≡ client → IfOk r (IsCounted client)
counted-of r client t counted e = subst (λ z. IfOk r (IsCounted z)) e counted
