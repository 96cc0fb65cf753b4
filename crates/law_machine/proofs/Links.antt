-- What a link's end holds is what the other end sent at the moment to look back to.
use Rattle.std.proofs.Common.{◌≡◌, ℕ, zero, suc, ◌≤◌, ◌<◌, nat_le, true, List, [], ◌∷◌, ◌++◌, ◌⊎◌, inl, inr, length, drop, slice_get, Some, refl, sym, ap, ◌∙◌, arith, length-append, append_assoc, append-nil, le-leb, leb-true, leb-false, drop_of_length-le}
use Rattle.std.proofs.lemmas.List.{drop-append-le}
use Rattle.std.proofs.lemmas.Option.{slice_get_within}
use Rattle.law_machine.specs.Links.{replay, Link, IsPutStep, IsReceiveStep, IsStayStep, IsLink, back_on}
use Rattle.base.proofs.Numbers.{Same, Is, Not, compare}
use Rattle.law_machine.proofs.Numbers.{climb, last-where, last-since, slice_get-left}
use Rattle.base.proofs.Lists.{drop-some}

module _ {S M : Type 0} (apply : S → M → S) where
  pub replay-append : (set : S) (a b : List M) → replay apply set (a ++ b) ≡ replay apply (replay apply set a) b
  replay-append set [] b = refl
  replay-append set (x ∷ a) b = replay-append (apply set x) a b

  module _ (l : Link S M) (good : IsLink apply l) where
    pub within : (m : ℕ) → l.taken m ≤ length (l.put m)
    within zero = omega (arith, good.still)
    within (suc m) = go (good.takes m) (within m)
      where
        longer : length (l.put m) ≤ length (l.put (suc m))
        longer = let q = good.puts m in omega (arith, ap length q.grows, length-append (l.put m) q.rest)

        go : IsStayStep l m ⊎ IsReceiveStep apply l m → l.taken m ≤ length (l.put m) → l.taken (suc m) ≤ length (l.put (suc m))
        go (inl e) h = omega (arith, e.counts, h, longer)
        go (inr e) h = omega (arith, e.counts, slice_get_within (l.put m) (l.taken m) e.message e.next, longer)

    pub prefix : (x m : ℕ) → x ≤ m → (rest : List M) × (l.put m ≡ l.put x ++ rest)
    prefix x m le = climb (λ y. (rest : List M) × (l.put y ≡ l.put x ++ rest)) x ([], sym (append-nil (l.put x))) (λ y h r. (let p = good.puts y in (r.0 ++ p.rest, p.grows ∙ (ap (λ z. z ++ p.rest) r.1 ∙ append_assoc (l.put x) r.0 p.rest)))) m le

    pub rises : (x m : ℕ) → x ≤ m → l.taken x ≤ l.taken m
    rises x m le = climb (λ y. l.taken x ≤ l.taken y) x (omega arith) (λ y h r. elim (good.takes y) [ inl e ↦ omega (arith, e.counts, r) | inr e ↦ omega (arith, e.counts, r) ]) m le

    -- what is held, with what is left of a beginning xs of the messages, stays the same while only xs is received
    stays : (m : ℕ) (xs rest : List M) → l.put m ≡ xs ++ rest → l.taken (suc m) ≤ length xs → replay apply (l.held (suc m)) (drop (l.taken (suc m)) xs) ≡ replay apply (l.held m) (drop (l.taken m) xs)
    stays m xs rest p le = go (good.takes m)
      where
        go : IsStayStep l m ⊎ IsReceiveStep apply l m → replay apply (l.held (suc m)) (drop (l.taken (suc m)) xs) ≡ replay apply (l.held m) (drop (l.taken m) xs)
        go (inl e) = rw (e.counts, e.keeps) refl
        go (inr e) =
            let slot : slice_get xs (l.taken m) ≡ Some e.message = sym (slice_get-left xs rest (l.taken m) (omega (arith, e.counts))) ∙ (ap (λ z. slice_get z (l.taken m)) (sym p) ∙ e.next) in
            rw (e.counts, e.applies, drop-some xs (l.taken m) e.message slot) refl

    -- what is held, with what is on its way, is what was sent
    pub sound : (m : ℕ) → replay apply (l.held m) (drop (l.taken m) (l.put m)) ≡ l.sent m
    sound zero = let all : length (l.put 0) ≤ l.taken 0 = omega (arith, good.still) in rw drop_of_length-le good.agrees
    sound (suc m) = go (good.puts m) (sound m)
      where
        go : IsPutStep apply l m → replay apply (l.held m) (drop (l.taken m) (l.put m)) ≡ l.sent m → replay apply (l.held (suc m)) (drop (l.taken (suc m)) (l.put (suc m))) ≡ l.sent (suc m)
        go p ih =
            let fits : l.taken (suc m) ≤ length (l.put m) = elim (good.takes m) [ inl f ↦ omega (arith, f.counts, within m) | inr f ↦ omega (arith, f.counts, slice_get_within (l.put m) (l.taken m) f.message f.next) ] in
            rw p.grows (rw (drop-append-le (l.taken (suc m)) (l.put m) p.rest fits, replay-append) (rw (stays m (l.put m) [] (sym (append-nil (l.put m))) fits) (rw ih p.makes)))

    pub was_sent : (x m : ℕ) → x ≤ m → l.taken m ≡ length (l.put x) → l.held m ≡ l.sent x
    was_sent x m le count =
        let network = climb (λ y. l.taken y ≤ length (l.put x) → replay apply (l.held y) (drop (l.taken y) (l.put x)) ≡ l.sent x) x (λ h. sound x)
        (λ y h ih k. (let p = prefix x y h in stays y (l.put x) p.0 p.1 k ∙ ih (omega (arith, rises y (suc y) (omega arith))))) m le (omega arith) in
        let all : length (l.put x) ≤ length (l.put x) = omega arith in
        rw (count, drop_of_length-le) at network

    first-back : (m : ℕ) → nat_le (length (l.put 0)) (l.taken m) ≡ true
    first-back m = le-leb (length (l.put 0)) (l.taken m) (omega (arith, good.still, rises 0 m (omega arith)))

    pub back-is : (m : ℕ) → (back_on l m ≤ m) × (l.taken m ≡ length (l.put (back_on l m)))
    back-is m =
        let x = last-where (λ x. nat_le (length (l.put x)) (l.taken m)) m (first-back m) in
        (x.1, go (back_on l m) x.1 (leb-true (length (l.put (back_on l m))) (l.taken m) x.0) (λ y a b. leb-false (length (l.put y)) (l.taken m) (x.2 y a b)) (compare (back_on l m) m))
      where
        go : (x : ℕ) → x ≤ m → length (l.put x) ≤ l.taken m → ((y : ℕ) → x < y → y ≤ m → l.taken m < length (l.put y)) → Same x m → l.taken m ≡ length (l.put x)
        go x le few many (Is q v) = let k = within m in omega (arith, k, few, ap (λ z. length (l.put z)) q)
        go x le few many (Not n v) = let p = good.puts x in omega (arith, few, many (suc x) (omega arith) (omega arith), ap length p.grows, length-append (l.put x) p.rest, p.short)

    pub back-sent : (m : ℕ) → l.held m ≡ l.sent (back_on l m)
    back-sent m = was_sent (back_on l m) m (back-is m).0 (back-is m).1

    -- a moment at which nothing is on its way is not looked behind
    pub back-since : (b m : ℕ) → l.taken b ≡ length (l.put b) → b ≤ m → b ≤ back_on l m
    back-since b m e le = last-since (λ x. nat_le (length (l.put x)) (l.taken m)) m b (first-back m) (le-leb (length (l.put b)) (l.taken m) (omega (arith, e, rises b m le))) le
