-- The refused ordinals are those of the publishes that are not accepted.
use Rattle.std.proofs.Common.{◌≡◌, ℕ, zero, suc, ◌+◌, Bool, true, false, cond, ◌↔◌, List, [], ◌∷◌, ◌⊎◌, inl, inr, take, slice_get, Some, refl, sym, ap, subst, ◌∙◌, arith}
use Rattle.std.proofs.lemmas.Option.{same_Some}
use Rattle.law_machine.specs.Machine.{Has}
use Rattle.law_routing.specs.Theory.{Theory}
use Rattle.law_routing.specs.Net.{Net, PhasedCommand, Command, Subscribe, Unsubscribe, Advertise, Unadvertise, Publish}
use Rattle.law_routing.specs.Clients.{is_publish, ordinal, adverts_step, adverts_after, accepts, add_refused, refused_from, IsRefused}

module _ (th : Theory) (net : Net th) where
  abbrev publishing : th.Notice → Command th
  publishing n = Publish n

  abbrev next : ℕ → PhasedCommand th → ℕ
  next o c = cond (is_publish th c.command) (suc o) o

  -- one command more in front
  shift : (ads : List th.Advert) (o : ℕ) (c : PhasedCommand th) (cs : List (PhasedCommand th)) (r : ℕ) → IsRefused th net (adverts_step th ads c.command) (next o c) cs r → IsRefused th net ads o (c ∷ cs) r
  shift ads o c cs r x = record { index = suc x.index; command = x.command; notice = x.notice; at = x.at; publishes = x.publishes; ordinal = go (is_publish th c.command) (ordinal th (take (suc x.index) cs)) x.ordinal; refused = x.refused }
    where
      go : (b : Bool) (k : ℕ) → cond b (suc o) o + k ≡ r → o + cond b (suc k) k ≡ r
      go true k e = omega (arith, e)
      go false k e = e

  here : (ads : List th.Advert) (o : ℕ) (c : PhasedCommand th) (cs : List (PhasedCommand th)) (n : th.Notice) → c.command ≡ Publish n → accepts th net ads n ≡ false → IsRefused th net ads o (c ∷ cs) (suc o)
  here ads o c cs n e f = record { index = 0; command = c; notice = n; at = refl; publishes = e; ordinal = rw (ap (is_publish th) e) (omega arith); refused = f }

  split : (ads : List th.Advert) (o : ℕ) (y : Command th) (os : List ℕ) (r : ℕ) → Has r (add_refused th net ads o y os) → Has r os ⊎ ((n : th.Notice) × (y ≡ Publish n) × (accepts th net ads n ≡ false) × (r ≡ suc o))
  split ads o (Subscribe f) os r h = inl h
  split ads o (Unsubscribe f) os r h = inl h
  split ads o (Advertise a) os r h = inl h
  split ads o (Unadvertise a) os r h = inl h
  split ads o (Publish n) os r h = go (accepts th net ads n) refl h
    where
      go : (b : Bool) → accepts th net ads n ≡ b → Has r (cond b os (suc o ∷ os)) → Has r os ⊎ ((m : th.Notice) × (publishing n ≡ publishing m) × (accepts th net ads m ≡ false) × (r ≡ suc o))
      go true e h = inl h
      go false e (inl p) = inr (n, refl, e, p)
      go false e (inr i) = inl i

  keeps : (ads : List th.Advert) (o : ℕ) (y : Command th) (os : List ℕ) (r : ℕ) → Has r os → Has r (add_refused th net ads o y os)
  keeps ads o (Subscribe f) os r h = h
  keeps ads o (Unsubscribe f) os r h = h
  keeps ads o (Advertise a) os r h = h
  keeps ads o (Unadvertise a) os r h = h
  keeps ads o (Publish n) os r h = go (accepts th net ads n)
    where
      go : (b : Bool) → Has r (cond b os (suc o ∷ os))
      go true = h
      go false = inr h

  refused-is : (cs : List (PhasedCommand th)) (ads : List th.Advert) (o r : ℕ) → Has r (refused_from th net ads o cs) → IsRefused th net ads o cs r
  refused-is [] ads o r h = absurd h
  refused-is (c ∷ cs) ads o r h = elim (split ads o c.command (refused_from th net (adverts_step th ads c.command) (next o c) cs) r h) [
    | inl i ↦ shift ads o c cs r (refused-is cs (adverts_step th ads c.command) (next o c) r i)
    | inr x ↦ subst (IsRefused th net ads o (c ∷ cs)) (sym x.3) (here ads o c cs x.0 x.1 x.2)
  ]

  is-refused : (cs : List (PhasedCommand th)) (ads : List th.Advert) (o r i : ℕ) (c : PhasedCommand th) (n : th.Notice) → slice_get cs i ≡ Some c → c.command ≡ Publish n → o + ordinal th (take (suc i) cs) ≡ r → accepts th net (adverts_after th ads (take i cs)) n ≡ false → Has r (refused_from th net ads o cs)
  is-refused [] ads o r i c n g e k f = absurd cc
  is-refused (d ∷ cs) ads o r zero c n g e k f =
      let same : d.command ≡ Publish n = ap (λ (z : PhasedCommand th). z.command) (same_Some _ _ g) ∙ e in
      subst (λ z. Has r (add_refused th net ads o z (refused_from th net (adverts_step th ads d.command) (next o d) cs))) (sym same) (first same)
    where
      first : d.command ≡ Publish n → Has r (add_refused th net ads o (Publish n) (refused_from th net (adverts_step th ads d.command) (next o d) cs))
      first same = rw f (inl (omega (arith, k, one same)))
        where
          one : d.command ≡ Publish n → ordinal th (take 1 (d ∷ cs)) ≡ 1
          one same = rw (ap (is_publish th) same) refl
  is-refused (d ∷ cs) ads o r (suc i) c n g e k f = keeps ads o d.command (refused_from th net (adverts_step th ads d.command) (next o d) cs) r (is-refused cs (adverts_step th ads d.command) (next o d) r i c n g e (go (is_publish th d.command) (ordinal th (take (suc i) cs)) k) f)
    where
      go : (b : Bool) (m : ℕ) → o + cond b (suc m) m ≡ r → cond b (suc o) o + m ≡ r
      go true m e = omega (arith, e)
      go false m e = e

  pub refused-exactly : (cs : List (PhasedCommand th)) (r : ℕ) → Has r (refused_from th net [] 0 cs) ↔ IsRefused th net [] 0 cs r
  refused-exactly cs r = (refused-is cs [] 0 r, (λ x. is-refused cs [] 0 r x.index x.command x.notice x.at x.publishes x.ordinal x.refused))
