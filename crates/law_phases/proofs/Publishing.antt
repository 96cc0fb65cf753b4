-- The ordinals of a client's accepted publications whose phases pass a test.
use Rattle.std.proofs.Common.{◌≡◌, ℕ, zero, suc, ◌+◌, ◌<◌, Bool, true, false, cond, ◌&&◌, List, [], ◌∷◌, inl, inr, length, take, slice_get, Some, refl, sym, ap, subst, ◌∙◌, arith}
use Rattle.std.proofs.lemmas.Option.{same_Some}
use Rattle.base.specs.Sets.{Has}
use Rattle.base.specs.Numbers.{sum_over, count}
use Rattle.law_routing.specs.Theory.{Theory}
use Rattle.law_routing.specs.Net.{Net, Command, Subscribe, Unsubscribe, Advertise, Unadvertise, Publish, PhasedCommand}
use Rattle.law_routing.specs.Clients.{accepts, adverts_after, adverts_step, is_publish, ordinal}
use Rattle.law_routing.specs.Order.{IsStrictlyRising}
use Rattle.law_routing.proofs.Scripts.{more-ordinals}
use Rattle.law_phases.specs.Economy.{accepted_phases, is_accepted}

module _ (th : Theory) (net : Net th) (passes : ℕ → Bool) where
  -- they, of a list of commands before which the client has these advertisements and made so many publishes
  abbrev pub accepted : List th.Advert → ℕ → List (PhasedCommand th) → List ℕ
  accepted adverts before [] = []
  accepted adverts before (c ∷ cs) =
      let next = cond (is_publish th c.command) (suc before) before in
      let later = accepted (adverts_step th adverts c.command) next cs in
      cond (is_accepted th net adverts c.command && passes c.phase) (next ∷ later) later

  -- they are as many as phases that pass
  pub as-many : (adverts : List th.Advert) (before : ℕ) (cs : List (PhasedCommand th)) → length (accepted adverts before cs) ≡ sum_over (λ phase. count (passes phase)) (accepted_phases th net adverts cs)
  as-many adverts before [] = refl
  as-many adverts before (c ∷ cs) =
      let next = cond (is_publish th c.command) (suc before) before in
      go (is_accepted th net adverts c.command) (passes c.phase) refl next (accepted (adverts_step th adverts c.command) next cs) (accepted_phases th net (adverts_step th adverts c.command) cs) (as-many (adverts_step th adverts c.command) next cs)
    where
      go : (a b : Bool) → passes c.phase ≡ b → (n : ℕ) (later phases : List ℕ) → length later ≡ sum_over (λ phase. count (passes phase)) phases
          → length (cond (a && b) (n ∷ later) later) ≡ sum_over (λ phase. count (passes phase)) (cond a (c.phase ∷ phases) phases)
      go true true e n later phases ih = omega (arith, ih, ap count e)
      go true false e n later phases ih = omega (arith, ih, ap count e)
      go false b e n later phases ih = ih

  -- a publish that is accepted is a publish
  accepted-publish : (adverts : List th.Advert) (k : Command th) → is_accepted th net adverts k ≡ true → (n : th.Notice) × (k ≡ Publish n) × (accepts th net adverts n ≡ true)
  accepted-publish adverts (Subscribe f) e = absurd cc
  accepted-publish adverts (Unsubscribe f) e = absurd cc
  accepted-publish adverts (Advertise a) e = absurd cc
  accepted-publish adverts (Unadvertise a) e = absurd cc
  accepted-publish adverts (Publish n) e = (n, refl, e)

  parts : (a b : Bool) → (a && b) ≡ true → (a ≡ true) × (b ≡ true)
  parts true true e = (refl, refl)
  parts true false e = absurd cc
  parts false b e = absurd cc

  -- an accepted publish whose phase passes, and its ordinal
  pub record Accepted (adverts : List th.Advert) (before : ℕ) (cs : List (PhasedCommand th)) (number : ℕ) : Type 0 where
    pub index : ℕ
    pub command : PhasedCommand th
    pub notice : th.Notice
    pub at : slice_get cs index ≡ Some command
    pub publishes : command.command ≡ Publish notice
    pub ordinal : before + ordinal th (take (suc index) cs) ≡ number
    pub allowed : accepts th net (adverts_after th adverts (take index cs)) notice ≡ true
    pub passed : passes command.phase ≡ true

  counted : (before : ℕ) (k : Command th) (rest : ℕ) → cond (is_publish th k) (suc before) before + rest ≡ before + cond (is_publish th k) (suc rest) rest
  counted before k rest = go (is_publish th k)
    where
      go : (b : Bool) → cond b (suc before) before + rest ≡ before + cond b (suc rest) rest
      go true = omega arith
      go false = refl

  pub accepted-is : (adverts : List th.Advert) (before : ℕ) (cs : List (PhasedCommand th)) (number : ℕ) → Has number (accepted adverts before cs) → Accepted adverts before cs number
  accepted-is adverts before [] number h = absurd h
  accepted-is adverts before (c ∷ cs) number h =
      go (is_accepted th net adverts c.command && passes c.phase) refl h (accepted-is (adverts_step th adverts c.command) (cond (is_publish th c.command) (suc before) before) cs number)
    where
      next : ℕ
      next = cond (is_publish th c.command) (suc before) before

      more : Accepted (adverts_step th adverts c.command) (cond (is_publish th c.command) (suc before) before) cs number → Accepted adverts before (c ∷ cs) number
      more x = record {
        index = suc x.index;
        command = x.command;
        notice = x.notice;
        at = x.at;
        publishes = x.publishes;
        ordinal = sym (counted before c.command (ordinal th (take (suc x.index) cs))) ∙ x.ordinal;
        allowed = x.allowed;
        passed = x.passed;
      }

      here : (is_accepted th net adverts c.command && passes c.phase) ≡ true → number ≡ cond (is_publish th c.command) (suc before) before → Accepted adverts before (c ∷ cs) number
      here e f =
          let p = parts (is_accepted th net adverts c.command) (passes c.phase) e in
          let a = accepted-publish adverts c.command p.0 in
          let none : cond (is_publish th c.command) (suc before) before + 0 ≡ number = omega (arith, f) in
          record { index = 0; command = c; notice = a.0; at = refl; publishes = a.1; ordinal = sym (counted before c.command 0) ∙ none; allowed = a.2; passed = p.1 }

      go : (b : Bool) → (is_accepted th net adverts c.command && passes c.phase) ≡ b → Has number (cond b (cond (is_publish th c.command) (suc before) before ∷ accepted (adverts_step th adverts c.command) (cond (is_publish th c.command) (suc before) before) cs) (accepted (adverts_step th adverts c.command) (cond (is_publish th c.command) (suc before) before) cs))
          → (Has number (accepted (adverts_step th adverts c.command) (cond (is_publish th c.command) (suc before) before) cs) → Accepted (adverts_step th adverts c.command) (cond (is_publish th c.command) (suc before) before) cs number)
          → Accepted adverts before (c ∷ cs) number
      go true e (inl f) ih = here e f
      go true e (inr i) ih = more (ih i)
      go false e i ih = more (ih i)

  accepted-keep : (b : Bool) (n number : ℕ) (xs : List ℕ) → Has number xs → Has number (cond b (n ∷ xs) xs)
  accepted-keep true n number xs h = inr h
  accepted-keep false n number xs h = h

  pub is-accepted : (adverts : List th.Advert) (before : ℕ) (cs : List (PhasedCommand th)) (index : ℕ) (command : PhasedCommand th) (n : th.Notice) (number : ℕ) → slice_get cs index ≡ Some command
      → command.command ≡ Publish n → before + ordinal th (take (suc index) cs) ≡ number → accepts th net (adverts_after th adverts (take index cs)) n ≡ true → passes command.phase ≡ true
      → Has number (accepted adverts before cs)
  is-accepted adverts before [] index command n number at publishes is allowed passed = absurd cc
  is-accepted adverts before (c ∷ cs) zero command n number at publishes is allowed passed =
      let same : c ≡ command = same_Some _ _ at in
      let publish : c.command ≡ Publish n = ap (λ z. z.command) same ∙ publishes in
      let accepts-it : is_accepted th net adverts c.command ≡ true = ap (is_accepted th net adverts) publish ∙ allowed in
      let passes-it : passes c.phase ≡ true = ap (λ z. passes z.phase) same ∙ passed in
      let next : number ≡ cond (is_publish th c.command) (suc before) before = sym is ∙ (sym (counted before c.command 0) ∙ plain (cond (is_publish th c.command) (suc before) before)) in
      subst (λ b. Has number (cond b (cond (is_publish th c.command) (suc before) before ∷ accepted (adverts_step th adverts c.command) (cond (is_publish th c.command) (suc before) before) cs) (accepted (adverts_step th adverts c.command) (cond (is_publish th c.command) (suc before) before) cs)))
      (sym (both accepts-it passes-it)) (inl next)
    where
      plain : (n : ℕ) → n + 0 ≡ n
      plain n = omega arith

      both : {a b : Bool} → a ≡ true → b ≡ true → (a && b) ≡ true
      both p q = rw (p, q) refl
  is-accepted adverts before (c ∷ cs) (suc index) command n number at publishes is allowed passed =
      accepted-keep (is_accepted th net adverts c.command && passes c.phase) (cond (is_publish th c.command) (suc before) before) number (accepted (adverts_step th adverts c.command) (cond (is_publish th c.command) (suc before) before) cs)
      (is-accepted (adverts_step th adverts c.command) (cond (is_publish th c.command) (suc before) before) cs index command n number at publishes (counted before c.command (ordinal th (take (suc index) cs)) ∙ is) allowed passed)

  -- they rise, from above those before
  accepted-high : (adverts : List th.Advert) (before : ℕ) (cs : List (PhasedCommand th)) (number : ℕ) → Has number (accepted adverts before cs) → before < number
  accepted-high adverts before cs number h =
      let x = accepted-is adverts before cs number h in
      omega (arith, x.ordinal, more-ordinals th cs x.index x.command x.at (ap (is_publish th) x.publishes))

  pub accepted-rise : (adverts : List th.Advert) (before : ℕ) (cs : List (PhasedCommand th)) → IsStrictlyRising (accepted adverts before cs)
  accepted-rise adverts before [] = tt
  accepted-rise adverts before (c ∷ cs) =
      go (is_accepted th net adverts c.command && passes c.phase) (accepted-rise (adverts_step th adverts c.command) (cond (is_publish th c.command) (suc before) before) cs)
    where
      go : (b : Bool) → IsStrictlyRising (accepted (adverts_step th adverts c.command) (cond (is_publish th c.command) (suc before) before) cs)
          → IsStrictlyRising (cond b (cond (is_publish th c.command) (suc before) before ∷ accepted (adverts_step th adverts c.command) (cond (is_publish th c.command) (suc before) before) cs) (accepted (adverts_step th adverts c.command) (cond (is_publish th c.command) (suc before) before) cs))
      go true ih = ((λ y h. accepted-high (adverts_step th adverts c.command) (cond (is_publish th c.command) (suc before) before) cs y h), ih)
      go false ih = ih
