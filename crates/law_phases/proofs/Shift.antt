-- Moments to look back to, counted from a later beginning.
use Rattle.std.proofs.Common.{◌≡◌, ℕ, zero, suc, ◌+◌, ◌≤◌, nat_le, Bool, true, false, cond, not, List, [], ◌∷◌, length, slice_get, refl, sym, ap, subst, ◌∙◌, arith, le-leb}
use Rattle.law_machine.specs.Links.{last_where}
use Rattle.base.specs.Sets.{Has}
use Rattle.law_machine.specs.Machine.{Act, Did, Received}
use Rattle.law_routing.specs.Theory.{Theory}
use Rattle.law_routing.specs.Net.{Net}
use Rattle.law_routing.specs.Step.{Task}
use Rattle.law_routing.specs.Routing.{Network}
use Rattle.law_routing.specs.Works.{reception_work, work_at}
use Rattle.law_routing.specs.Rest.{filters_of, adverts_of}
use Rattle.law_routing.specs.AsOf.{calm, back, as_of, IsAdvertisedAlong, IsSettled, IsWantedBeyond}

pub last-low : (p : ℕ → Bool) (m : ℕ) → last_where p m ≤ m
last-low p zero = omega arith
last-low p (suc m) = go (p (suc m)) (last-low p m)
  where
    go : (b : Bool) → last_where p m ≤ m → cond b (suc m) (last_where p m) ≤ suc m
    go true l = omega arith
    go false l = omega (arith, l)

last-here : (p : ℕ → Bool) (m : ℕ) → p m ≡ true → last_where p m ≡ m
last-here p zero e = refl
last-here p (suc m) e = ap (λ z. cond z (suc m) (last_where p m)) e

pub last-shift : (p q : ℕ → Bool) (o i : ℕ) → ((j : ℕ) → j ≤ i → p (o + j) ≡ q j) → q 0 ≡ true → last_where p (o + i) ≡ o + last_where q i
last-shift p q o zero same e = last-here p (o + zero) (same 0 (omega arith) ∙ e)
last-shift p q o (suc i) same e =
    ap (last_where p) (more o i) ∙ (ap (λ z. cond z (suc (o + i)) (last_where p (o + i))) (ap p (sym (more o i)) ∙ same (suc i) (omega arith)) ∙ go (q (suc i)) (last-shift p q o i (λ j l. same j (omega (arith, l))) e))
  where
    more : (a b : ℕ) → a + suc b ≡ suc (a + b)
    more a b = omega arith

    go : (b : Bool) → last_where p (o + i) ≡ o + last_where q i → cond b (suc (o + i)) (last_where p (o + i)) ≡ o + cond b (suc i) (last_where q i)
    go true ih = sym (more o i)
    go false ih = ih

-- two states of a net, but for the clocks
pub record Like (th : Theory) (net : Net th) (w v : Network th net) : Type 0 where
  pub state : w.state ≡ v.state
  pub put : w.put ≡ v.put
  pub taken : w.taken ≡ v.taken

module _ (th : Theory) (net : Net th) where
  pub work-like : (w v : Network th net) (t : ℕ) (a : Act Task) → Like th net w v → work_at th net w t a ≡ work_at th net v t a
  work-like w v t (Did b) l = ap (λ z. work_at th net (record { state = z; clock = w.clock; put = w.put; taken = w.taken }) t (Did b)) l.state
  work-like w v t (Received u) l = λ i. reception_work th net t (l.state i t) u (slice_get (l.put i u t) (l.taken i u t))

  -- S: the states of a whole run; S': those of its part that begins after o entries; both are alike up to the moment i of the part
  module _ (S S' : ℕ → Network th net) (o i : ℕ) (like : (j : ℕ) → j ≤ i → Like th net (S (o + j)) (S' j)) (fresh : (a b : ℕ) → (S' 0).put a b ≡ []) (none_pending : (t : ℕ) → ((S' 0).state t).pending ≡ false) where
    pub calm-shift : (t j : ℕ) → j ≤ i → calm th net S t (o + j) ≡ o + calm th net S' t j
    calm-shift t j l = last-shift (λ x. not ((S x).state t).pending) (λ x. not ((S' x).state t).pending) o j (λ k h. ap (λ z. not (z t).pending) (like k (omega (arith, l, h))).state) (ap not (none_pending t))

    pub back-shift : (t u j : ℕ) → j ≤ i → back th net S t u (o + j) ≡ o + back th net S' t u j
    back-shift t u j l =
        last-shift (λ x. nat_le (length ((S x).put u t)) ((S (o + j)).taken u t)) (λ x. nat_le (length ((S' x).put u t)) ((S' j).taken u t)) o j
        (λ k h. ap (λ z. nat_le (length (z u t)) ((S (o + j)).taken u t)) (like k (omega (arith, l, h))).put ∙ ap (λ z. nat_le (length ((S' k).put u t)) (z u t)) (like j l).taken)
        (ap (λ z. nat_le (length z) ((S' j).taken u t)) (fresh u t) ∙ le-leb 0 ((S' j).taken u t) (omega arith))

    pub calm-low : (t j : ℕ) → calm th net S' t j ≤ j
    calm-low t j = last-low (λ x. not ((S' x).state t).pending) j

    pub back-low : (t u j : ℕ) → back th net S' t u j ≤ j
    back-low t u j = last-low (λ x. nat_le (length ((S' x).put u t)) ((S' j).taken u t)) j

    pub as-of-low : (t : ℕ) (path : List ℕ) (j : ℕ) → as_of th net S' t path j ≤ j
    as-of-low t [] j = omega arith
    as-of-low t (u ∷ path) j = omega (arith, as-of-low u path (back th net S' t u j), back-low t u j)

    pub as-of-shift : (t : ℕ) (path : List ℕ) (j : ℕ) → j ≤ i → as_of th net S t path (o + j) ≡ o + as_of th net S' t path j
    as-of-shift t [] j l = refl
    as-of-shift t (u ∷ path) j l = ap (as_of th net S u path) (back-shift t u j l) ∙ as-of-shift u path (back th net S' t u j) (omega (arith, l, back-low t u j))

    pub filters-shift : (c j : ℕ) → j ≤ i → filters_of th net (S (o + j)) c ≡ filters_of th net (S' j) c
    filters-shift c j l = ap (λ z. filters_of th net (record { state = z; clock = (S (o + j)).clock; put = (S (o + j)).put; taken = (S (o + j)).taken }) c) (like j l).state

    pub adverts-shift : (c j : ℕ) → j ≤ i → adverts_of th net (S (o + j)) c ≡ adverts_of th net (S' j) c
    adverts-shift c j l = ap (λ z. adverts_of th net (record { state = z; clock = (S (o + j)).clock; put = (S (o + j)).put; taken = (S (o + j)).taken }) c) (like j l).state

    -- what a server's last table update knows of a client's filters
    pub known-filters : (t : ℕ) (path : List ℕ) (c j : ℕ) → j ≤ i → filters_of th net (S (as_of th net S t path (calm th net S t (o + j)))) c ≡ filters_of th net (S' (as_of th net S' t path (calm th net S' t j))) c
    known-filters t path c j l =
        ap (λ z. filters_of th net (S (as_of th net S t path z)) c) (calm-shift t j l)
        ∙ (ap (λ z. filters_of th net (S z) c) (as-of-shift t path (calm th net S' t j) (omega (arith, l, calm-low t j)))
        ∙ filters-shift c (as_of th net S' t path (calm th net S' t j)) (omega (arith, l, calm-low t j, as-of-low t path (calm th net S' t j))))

    pub wanted-to : (n : th.Notice) (t u j : ℕ) → j ≤ i → IsWantedBeyond th net S' n t u j → IsWantedBeyond th net S n t u (o + j)
    wanted-to n t u j l x = record { path = x.path; client = x.client; filter = x.filter; way = x.way; lives = x.lives; listed = subst (Has x.filter) (sym (known-filters t (u ∷ x.path) x.client j l)) x.listed; matches = x.matches }

    pub wanted-from : (n : th.Notice) (t u j : ℕ) → j ≤ i → IsWantedBeyond th net S n t u (o + j) → IsWantedBeyond th net S' n t u j
    wanted-from n t u j l x = record { path = x.path; client = x.client; filter = x.filter; way = x.way; lives = x.lives; listed = subst (Has x.filter) (known-filters t (u ∷ x.path) x.client j l) x.listed; matches = x.matches }

    -- and of a publisher's advertisements
    known-adverts : (t : ℕ) (path : List ℕ) (q j : ℕ) → j ≤ i → adverts_of th net (S (as_of th net S t path (o + j))) q ≡ adverts_of th net (S' (as_of th net S' t path j)) q
    known-adverts t path q j l = ap (λ z. adverts_of th net (S z) q) (as-of-shift t path j l) ∙ adverts-shift q (as_of th net S' t path j) (omega (arith, l, as-of-low t path j))

    pub advertised-to : (q : ℕ) (n : th.Notice) (behind : List ℕ) (t : ℕ) (path : List ℕ) (j : ℕ) → j ≤ i → IsAdvertisedAlong th net S' q n behind t path j → IsAdvertisedAlong th net S q n behind t path (o + j)
    advertised-to q n behind t [] j l x = tt
    advertised-to q n behind t (u ∷ path) j l (a, rest) =
        let b : back th net S' t u j ≤ i = omega (arith, l, back-low t u j) in (
          (λ on. (let y = a on in (y.0, subst (λ z. Has y.0 (adverts_of th net (S (as_of th net S u (t ∷ behind) z)) q)) (sym (back-shift t u j l)) (subst (Has y.0) (sym (known-adverts u (t ∷ behind) q (back th net S' t u j) b)) y.1), y.2))),
          subst (IsAdvertisedAlong th net S q n (t ∷ behind) u path) (sym (back-shift t u j l)) (advertised-to q n (t ∷ behind) u path (back th net S' t u j) b rest),
        )

    pub advertised-from : (q : ℕ) (n : th.Notice) (behind : List ℕ) (t : ℕ) (path : List ℕ) (j : ℕ) → j ≤ i → IsAdvertisedAlong th net S q n behind t path (o + j) → IsAdvertisedAlong th net S' q n behind t path j
    advertised-from q n behind t [] j l x = tt
    advertised-from q n behind t (u ∷ path) j l (a, rest) =
        let b : back th net S' t u j ≤ i = omega (arith, l, back-low t u j) in (
          (λ on. (let y = a on in (y.0, subst (Has y.0) (known-adverts u (t ∷ behind) q (back th net S' t u j) b) (subst (λ z. Has y.0 (adverts_of th net (S (as_of th net S u (t ∷ behind) z)) q)) (back-shift t u j l) y.1), y.2))),
          advertised-from q n (t ∷ behind) u path (back th net S' t u j) b (subst (IsAdvertisedAlong th net S q n (t ∷ behind) u path) (back-shift t u j l) rest),
        )

    pub settled-to : (n : th.Notice) (q c : ℕ) (behind : List ℕ) (t : ℕ) (path : List ℕ) (j : ℕ) → j ≤ i → IsSettled th net S' n q c behind t path j → IsSettled th net S n q c behind t path (o + j)
    settled-to n q c behind t path j l x = record {
      filter = x.filter;
      wanted = subst (Has x.filter) (sym (known-filters t path c j l)) x.wanted;
      matches = x.matches;
      allowed = subst (IsAdvertisedAlong th net S q n behind t path) (sym (calm-shift t j l)) (advertised-to q n behind t path (calm th net S' t j) (omega (arith, l, calm-low t j)) x.allowed);
    }

    pub settled-from : (n : th.Notice) (q c : ℕ) (behind : List ℕ) (t : ℕ) (path : List ℕ) (j : ℕ) → j ≤ i → IsSettled th net S n q c behind t path (o + j) → IsSettled th net S' n q c behind t path j
    settled-from n q c behind t path j l x = record {
      filter = x.filter;
      wanted = subst (Has x.filter) (known-filters t path c j l) x.wanted;
      matches = x.matches;
      allowed = advertised-from q n behind t path (calm th net S' t j) (omega (arith, l, calm-low t j)) (subst (IsAdvertisedAlong th net S q n behind t path) (calm-shift t j l) x.allowed);
    }
