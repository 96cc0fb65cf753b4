-- Messages go to their lanes in the order of the lanes.
use Rattle.std.proofs.Common.{◌≡◌, ℕ, zero, suc, ◌+◌, ◌<◌, ◌≤◌, ◌==◌, Bool, true, false, cond, List, [], ◌∷◌, ◌++◌, ◌⊎◌, inl, inr, length, map, get_or, set, refl, sym, ap, subst, ◌∙◌, arith, add-one}
use Rattle.std.proofs.lemmas.List.{map-append}
use Rattle.base.specs.Sets.{Has}
use Rattle.base.specs.Numbers.{IsDistinct}
use Rattle.law_machine.proofs.Lists.{Same, Is, Not, compare}
use Rattle.thread_cell.specs.declared.link.Link.{Link}
use Rattle.net_model.specs.Parts.{NetParts}
use Rattle.server_message.specs.Parts.{MessageParts, SendingParts, sending_parts}
use Rattle.server_message.specs.declared.load.Load.{Load}
use Rattle.server_message.specs.declared.stamped.StampedLoad.{StampedLoad}
use Rattle.server_message.specs.Message.{IsLoad, represented}
use Rattle.thread_cell.specs.Heard.{heard, heard_stamped}
use Rattle.thread_cell.proofs.Heard.{heard-of}
use Rattle.thread_lane.specs.declared.putting.LaneIn.{LaneIn}
use Rattle.thread_lane.specs.Lane.{SameIn, free_places, mark_of, pushed_list, put_list, waiting_list}
use Rattle.thread_lane.proofs.Later.{same_in_later}
use Rattle.thread_cell.specs.Acted.{Represented}
use Rattle.filter_text.specs.MessageText.{Each}
use Rattle.thread_cell.specs.Links.{Both}
use Rattle.thread_cell.specs.LaneMessages.{AreInOrder, AreOfNet, IsHanded, IsGiven, IsPut, first_for, rest_for, only_for, all_sent_as}

earliest : (a : ℕ) (others ns : List ℕ) → AreInOrder (a ∷ others) ns → Has a ns
earliest a others [] o = absurd o
earliest a others (y ∷ ns) (inl o) = inl o.0
earliest a others (y ∷ ns) (inr o) = inr (earliest a others ns o)

abbrev pub tos : List SendingParts → List ℕ
tos sent = map (λ s. s.to) sent

abbrev pub names : List Link → List ℕ
names links = map (λ link. link.neighbour) links

-- no message is for a neighbour that is not among the receivers
pub none : (x : ℕ) (sent : List SendingParts) (ns : List ℕ) → AreInOrder (tos sent) ns → (Has x ns → ⊥) → only_for x sent ≡ []
none x [] ns o n = refl
none x (s ∷ sent) [] o n = absurd o
none x (s ∷ sent) (y ∷ ns) (inl o) n = go (compare s.to x) (none x sent ns o.1 (λ h. n (inr h)))
  where
    go : Same s.to x → only_for x sent ≡ [] → only_for x (s ∷ sent) ≡ []
    go (Is p v) q = absurd (n (inl (sym p ∙ o.0)))
    go (Not p v) q = rw v q
none x (s ∷ sent) (y ∷ ns) (inr o) n = none x (s ∷ sent) ns o (λ h. n (inr h))

module _ (net : NetParts) where
  -- the first n lanes have got theirs, and the rest of the messages is left
  abbrev pub Handing : ℕ → ℕ → List Link → List SendingParts → List Link → List SendingParts → Type 0
  Handing stamp zero xs sent ys rest = (xs ≡ ys) × (sent ≡ rest)
  Handing stamp (suc n) [] sent ys rest = ⊥
  Handing stamp (suc n) (x ∷ xs) sent [] rest = ⊥
  Handing stamp (suc n) (x ∷ xs) sent (y ∷ ys) rest = IsHanded net stamp (first_for x.neighbour sent) x y × Handing stamp n xs (rest_for x.neighbour sent) ys rest

  more : (stamp n : ℕ) (xs : List Link) (sent : List SendingParts) (ys : List Link) (rest : List SendingParts) (d z : Link) → n < length xs → Handing stamp n xs sent ys rest → IsHanded net stamp (first_for (get_or ys n d).neighbour rest) (get_or ys n d) z → Handing stamp (suc n) xs sent (set ys n z) (rest_for (get_or ys n d).neighbour rest)
  more stamp zero [] sent ys rest d z lt p h = absurd (omega arith)
  more stamp zero (x ∷ xs) sent ys rest d z lt p h =
      subst (λ (w : List Link). IsHanded net stamp (first_for (get_or w 0 d).neighbour rest) (get_or w 0 d) z → Handing stamp 1 (x ∷ xs) sent (set w 0 z) (rest_for (get_or w 0 d).neighbour rest)) p.0
      (subst (λ (r : List SendingParts). IsHanded net stamp (first_for x.neighbour r) x z → Handing stamp 1 (x ∷ xs) sent (z ∷ xs) (rest_for x.neighbour r)) p.1 (λ h. (h, (refl, refl))))
      h
  more stamp (suc n) [] sent ys rest d z lt p h = absurd p
  more stamp (suc n) (x ∷ xs) sent [] rest d z lt p h = absurd p
  more stamp (suc n) (x ∷ xs) sent (y ∷ ys) rest d z lt p h = (p.0, more stamp n xs (rest_for x.neighbour sent) ys rest d z (omega arith) p.1 h)

  -- the next lane
  pub handing-more : (stamp n : ℕ) (xs : List Link) (sent : List SendingParts) (ys : List Link) (rest left : List SendingParts) (d z : Link) → n < length xs → Handing stamp n xs sent ys rest → IsHanded net stamp (first_for (get_or ys n d).neighbour rest) (get_or ys n d) z → left ≡ rest_for (get_or ys n d).neighbour rest → Handing stamp (n + 1) xs sent (set ys n z) left
  handing-more stamp n xs sent ys rest left d z lt p h e = rw (add-one, e) (more stamp n xs sent ys rest d z lt p h)

  -- the next lane is as it was
  pub handing-at : (P : Link → Type 0) (stamp n : ℕ) (xs : List Link) (sent : List SendingParts) (ys : List Link) (rest : List SendingParts) (d : Link) → n < length xs → Handing stamp n xs sent ys rest → Each P xs → P (get_or ys n d)
  handing-at P stamp zero [] sent ys rest d lt p e = absurd (omega arith)
  handing-at P stamp zero (x ∷ xs) sent ys rest d lt p e = subst (λ (w : List Link). P (get_or w 0 d)) p.0 e.0
  handing-at P stamp (suc n) [] sent ys rest d lt p e = absurd p
  handing-at P stamp (suc n) (x ∷ xs) sent [] rest d lt p e = absurd p
  handing-at P stamp (suc n) (x ∷ xs) sent (y ∷ ys) rest d lt p e = handing-at P stamp n xs (rest_for x.neighbour sent) ys rest d (omega arith) p.1 e.1

  -- a message for another neighbour before them changes nothing
  before : (stamp : ℕ) (s : SendingParts) (sent : List SendingParts) (xs ys : List Link) → (Has s.to (names xs) → ⊥) → Both (IsGiven net stamp sent) xs ys → Both (IsGiven net stamp (s ∷ sent)) xs ys
  before stamp s sent [] [] n b = tt
  before stamp s sent [] (y ∷ ys) n b = absurd b
  before stamp s sent (x ∷ xs) [] n b = absurd b
  before stamp s sent (x ∷ xs) (y ∷ ys) n b = (go (compare s.to x.neighbour), before stamp s sent xs ys (λ h. n (inr h)) b.1)
    where
      go : Same s.to x.neighbour → IsGiven net stamp (s ∷ sent) x y
      go (Is p v) = absurd (n (inl p))
      go (Not p v) = subst (λ (l : List SendingParts). IsHanded net stamp l x y) (sym (rw v refl)) b.0

  -- at the end each lane has got its messages
  pub handing-end : (stamp n : ℕ) (xs : List Link) (sent : List SendingParts) (ys : List Link) (rest : List SendingParts) → length xs ≤ n → IsDistinct (names xs) → AreInOrder (tos sent) (names xs) → Handing stamp n xs sent ys rest → Both (IsGiven net stamp sent) xs ys
  handing-end stamp zero [] sent [] rest le d o p = tt
  handing-end stamp zero [] sent (y ∷ ys) rest le d o p = absurd (let q : [] ≡ y ∷ ys = p.0 in cc)
  handing-end stamp zero (x ∷ xs) sent ys rest le d o p = absurd (omega arith)
  handing-end stamp (suc n) [] sent ys rest le d o p = absurd p
  handing-end stamp (suc n) (x ∷ xs) sent [] rest le d o p = absurd p
  handing-end stamp (suc n) (x ∷ xs) [] (y ∷ ys) rest le d o p = (p.0, handing-end stamp n xs [] ys rest (omega arith) d.1 tt p.1)
  handing-end stamp (suc n) (x ∷ xs) (s ∷ sent) (y ∷ ys) rest le d o p = go (λ sent. handing-end stamp n xs sent ys rest (omega arith) d.1) (compare s.to x.neighbour) o p
    where
      go : ((sent : List SendingParts) → AreInOrder (tos sent) (names xs) → Handing stamp n xs sent ys rest → Both (IsGiven net stamp sent) xs ys) → Same s.to x.neighbour → AreInOrder (s.to ∷ tos sent) (x.neighbour ∷ names xs) → IsHanded net stamp (first_for x.neighbour (s ∷ sent)) x y × Handing stamp n xs (rest_for x.neighbour (s ∷ sent)) ys rest → Both (IsGiven net stamp (s ∷ sent)) (x ∷ xs) (y ∷ ys)
      go next (Is e v) (inl o) p =
          let h : IsHanded net stamp (s ∷ []) x y = subst (λ b. IsHanded net stamp (cond b (s ∷ []) []) x y) v p.0 in
          let t : Handing stamp n xs sent ys rest = subst (λ b. Handing stamp n xs (cond b sent (s ∷ sent)) ys rest) v p.1 in
          let only : only_for x.neighbour (s ∷ sent) ≡ s ∷ [] = rw v (ap (λ l. s ∷ l) (none x.neighbour sent (names xs) o.1 d.0)) in
          (subst (λ (l : List SendingParts). IsHanded net stamp l x y) (sym only) h, before stamp s sent xs ys (λ h. d.0 (subst (λ z. Has z (names xs)) e h)) (next sent o.1 t))
      go next (Is e v) (inr o) p = absurd (d.0 (subst (λ z. Has z (names xs)) e (earliest s.to (tos sent) (names xs) o)))
      go next (Not e v) (inl o) p = absurd (e o.0)
      go next (Not e v) (inr o) p =
          let h : IsHanded net stamp [] x y = subst (λ b. IsHanded net stamp (cond b (s ∷ []) []) x y) v p.0 in
          let t : Handing stamp n xs (s ∷ sent) ys rest = subst (λ b. Handing stamp n xs (cond b sent (s ∷ sent)) ys rest) v p.1 in
          (subst (λ (l : List SendingParts). IsHanded net stamp l x y) (sym (none x.neighbour (s ∷ sent) (names xs) o d.0)) h, next (s ∷ sent) o t)

  -- the rest of what is sent is among it
  pub rest-has : (n : ℕ) (sent : List SendingParts) (s : SendingParts) → Has s (rest_for n sent) → Has s sent
  rest-has n [] s h = h
  rest-has n (x ∷ sent) s h = go (x.to == n) h
    where
      go : (b : _) → Has s (cond b sent (x ∷ sent)) → Has s (x ∷ sent)
      go true h = inr h
      go false h = h

  pub handing-has : (stamp n : ℕ) (xs : List Link) (sent : List SendingParts) (ys : List Link) (rest : List SendingParts) → Handing stamp n xs sent ys rest → (s : SendingParts) → Has s rest → Has s sent
  handing-has stamp zero xs sent ys rest p s h = subst (λ (l : List SendingParts). Has s l) (sym p.1) h
  handing-has stamp (suc n) [] sent ys rest p s h = absurd p
  handing-has stamp (suc n) (x ∷ xs) sent [] rest p s h = absurd p
  handing-has stamp (suc n) (x ∷ xs) sent (y ∷ ys) rest p s h = rest-has x.neighbour sent s (handing-has stamp n xs (rest_for x.neighbour sent) ys rest p.1 s h)

-- the first that is sent
first-has : (sent : List SendingParts) (s : SendingParts) → 0 < length sent → s ≡ get_or sent 0 s → Has s sent
first-has [] s lt e = absurd (omega (arith, lt))
first-has (x ∷ sent) s lt e = inl e

-- where the first that is sent is for a neighbour, it is what is put for it
first-is : (n : ℕ) (sent : List SendingParts) (s h : SendingParts) → 0 < length sent → s ≡ get_or sent 0 s → h ≡ get_or sent 0 h → h.to ≡ n → first_for n sent ≡ s ∷ []
first-is n [] s h lt e f t = absurd (omega (arith, lt))
first-is n (x ∷ sent) s h lt e f t = go (compare x.to n)
  where
    go : Same x.to n → first_for n (x ∷ sent) ≡ s ∷ []
    go (Is p v) = rw v (ap (λ (z : SendingParts). z ∷ []) (sym e))
    go (Not p v) = absurd (p (ap (λ (z : SendingParts). z.to) (sym f) ∙ t))

-- at most one is
pub first-few : (n : ℕ) (sent : List SendingParts) → length (first_for n sent) ≤ 1
first-few n [] = omega arith
first-few n (x ∷ sent) = go (x.to == n)
  where
    go : (b : Bool) → length (cond b (x ∷ []) []) ≤ 1
    go true = omega arith
    go false = omega arith

module _ (net : NetParts) where
  -- what was put first, as a net says it
  pub put-said : (stamp : ℕ) (x : Link) (enter : LaneIn StampedLoad) (s : SendingParts) (item : StampedLoad) → put_list enter ≡ put_list x.enter ++ item ∷ [] → item.stamp ≡ stamp → s.sent.message ≡ heard net item.load
      → map (heard_stamped net) (put_list enter) ≡ map (heard_stamped net) (put_list x.enter) ++ all_sent_as stamp (s ∷ [])
  put-said stamp x enter s item e t m =
      ap (map (heard_stamped net)) e ∙ map-append (heard_stamped net) (put_list x.enter) (item ∷ [])
      ∙ ap (λ (w : Represented). map (heard_stamped net) (put_list x.enter) ++ w ∷ []) (λ i. record { stamp = t i; message = sym m i })

  -- what was put for a neighbour, where the first that is sent is for it
  pub put-first : (stamp : ℕ) (x : Link) (enter : LaneIn StampedLoad) (sent : List SendingParts) (s h : SendingParts) (to : ℕ) (message : MessageParts) (item : StampedLoad) (load : Load)
      → 0 < length sent → s ≡ get_or sent 0 s → h ≡ get_or sent 0 h → h.to ≡ x.neighbour → sending_parts to message ≡ s → AreOfNet net sent
      → put_list enter ≡ put_list x.enter ++ item ∷ [] → item.stamp ≡ stamp → item.load ≡ load → IsLoad message.net load → message.message ≡ represented message.net load
      → map (heard_stamped net) (put_list enter) ≡ map (heard_stamped net) (put_list x.enter) ++ all_sent_as stamp (first_for x.neighbour sent)
  put-first stamp x enter sent s h to message item load lt e f t v of p st il is m =
      put-said stamp x enter s item p st represents ∙ ap (λ (l : List SendingParts). map (heard_stamped net) (put_list x.enter) ++ all_sent_as stamp l) (sym (first-is x.neighbour sent s h lt e f t))
    where
      same-net : message.net ≡ net
      same-net = ap (λ (z : SendingParts). z.sent.net) v ∙ of s (first-has sent s lt e)

      represents : s.sent.message ≡ heard net item.load
      represents = ap (λ (z : SendingParts). z.sent.message) (sym v) ∙ m ∙ sym (heard-of message.net load is) ∙ ap (λ (n : NetParts). heard n load) same-net ∙ ap (heard net) (sym il)

-- a lane on which the first was put, and which was flushed then
pub handed-by : {net : NetParts} {stamp : ℕ} {sent : List SendingParts} (x z : Link) (w : LaneIn StampedLoad) → IsPut net stamp sent x z → SameIn z.enter w → put_list w ≡ put_list z.enter
    → (waiting_list w ≡ []) ⊎ (free_places w ≡ 0) → mark_of w ≡ length (pushed_list w) → IsHanded net stamp sent x (record z { enter = w })
handed-by {net} x z w p same put done mark = record {
  put = record {
    same = record { neighbour = p.same.neighbour; enter = same_in_later x.enter z.enter w p.same.enter same; leave = p.same.leave };
    leave = p.leave;
    one = p.one;
    put = ap (map (heard_stamped net)) put ∙ p.put;
  };
  flushed = (done, mark);
}
