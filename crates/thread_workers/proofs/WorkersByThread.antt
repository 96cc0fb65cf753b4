-- The workers of all threads, as they are added and leave again.
use Rattle.std.proofs.Common.{◌≡◌, ℕ, zero, suc, ◌+◌, ◌<◌, ◌≤◌, List, [], ◌∷◌, ◌++◌, map, length, get_or, set, refl, sym, ap, subst, ◌∙◌, arith}
use Rattle.base_devices.specs.declared.gate.WorkerRole.{WorkerRole}
use Rattle.base_devices.specs.declared.gate.WorkerRole.TheVariants.{Commands, Links}
use Rattle.thread_workers.specs.ServerWorkers.{HaveRoom, Pairwise, at_lock, thread_at, with_all, with_both, with_one}
use Rattle.thread_workers.specs.WorkerHandles.{CellLock}

module _ {V X : Type 0} (f : V → List X) where
  -- a row at a place was set to itself with an item more
  pub set-with : (rows : List V) (place : ℕ) (d v : V) (x : X) → place < length rows → f v ≡ f (get_or rows place d) ++ x ∷ [] → map f (set rows place v) ≡ with_one place x (map f rows)
  set-with [] place d v x lt e = absurd (omega (arith, lt))
  set-with (r ∷ rows) zero d v x lt e = ap (λ l. l ∷ map f rows) e
  set-with (r ∷ rows) (suc place) d v x lt e = ap (λ l. f r ∷ l) (set-with rows place d v x (omega (arith, lt)) e)

-- rows whose members fit the members of others
module _ {A B V : Type 0} (P : A → B → Type 0) (f : V → List B) where
  -- the row at the place of one member more
  pub row-with : (less : List (List A)) (rows : List V) (place : ℕ) (x : A) (d : V) → place < length rows → Pairwise (λ row v. Pairwise P row (f v)) (with_one place x less) rows
      → Pairwise P (get_or less place [] ++ x ∷ []) (f (get_or rows place d))
  row-with less [] place x d lt p = absurd (omega (arith, lt))
  row-with [] (r ∷ rows) place x d lt p = absurd p
  row-with (l ∷ less) (r ∷ rows) zero x d lt p = p.0
  row-with (l ∷ less) (r ∷ rows) (suc place) x d lt p = row-with less rows place x d (omega (arith, lt)) p.1

  -- and the rows without it
  pub rows-without : (less : List (List A)) (rows : List V) (place : ℕ) (x : A) (v : V) → place < length rows → Pairwise (λ row v. Pairwise P row (f v)) (with_one place x less) rows
      → Pairwise P (get_or less place []) (f v) → Pairwise (λ row v. Pairwise P row (f v)) less (set rows place v)
  rows-without less [] place x v lt p q = absurd (omega (arith, lt))
  rows-without [] (r ∷ rows) place x v lt p q = absurd p
  rows-without (l ∷ less) (r ∷ rows) zero x v lt p q = (q, p.1)
  rows-without (l ∷ less) (r ∷ rows) (suc place) x v lt p q = (p.0, rows-without less rows place x v (omega (arith, lt)) p.1 q)

-- the last lock's workers stood there first
with-last : (threads server : ℕ) (locks : List CellLock) (lock : CellLock) (rows : List (List (CellLock × WorkerRole))) → with_all threads server (locks ++ lock ∷ []) rows ≡ with_all threads server locks (with_both threads (server + length locks) lock rows)
with-last threads server [] lock rows = let e : server ≡ server + 0 = omega arith in ap (λ s. with_both threads s lock rows) e
with-last threads server (l ∷ locks) lock rows =
    let e : suc server + length locks ≡ server + suc (length locks) = omega arith in
    ap (with_both threads server l) (with-last threads (suc server) locks lock rows ∙ ap (λ s. with_all threads (suc server) locks (with_both threads s lock rows)) e)

-- where the first lock is that of the first server
with-rest : (threads : ℕ) (locks : List CellLock) (lock : CellLock) (rows : List (List (CellLock × WorkerRole))) → with_all threads 0 (locks ++ lock ∷ []) rows ≡ with_all threads 0 locks (with_both threads (length locks) lock rows)
with-rest threads locks lock rows = let e : 0 + length locks ≡ length locks = omega arith in with-last threads 0 locks lock rows ∙ ap (λ s. with_all threads 0 locks (with_both threads s lock rows)) e

module _ (locks others : List CellLock) (lock : CellLock) (n first second : ℕ) where
  -- with the workers of the last lock in their threads, and then those of the others, all stand in theirs
  pub hired-last : (rows one two all : List (List (CellLock × WorkerRole))) (l k : CellLock) (w v : WorkerRole) (m p : ℕ) → locks ≡ others ++ lock ∷ [] → m ≡ n → p ≡ n → first ≡ thread_at p (length others) Commands
      → second ≡ thread_at p (length others) Links → l ≡ lock → w ≡ Commands → k ≡ lock → v ≡ Links → one ≡ with_one first (at_lock l w) rows → two ≡ with_one second (at_lock k v) one → all ≡ with_all m 0 others two
      → all ≡ with_all n 0 locks rows
  hired-last rows one two all l k w v m p e em ep f h el ew ek ev a b d =
      let f' : first ≡ thread_at n (length others) Commands = f ∙ ap (λ z. thread_at z (length others) Commands) ep in
      let h' : second ≡ thread_at n (length others) Links = h ∙ ap (λ z. thread_at z (length others) Links) ep in
      let a' : one ≡ with_one (thread_at n (length others) Commands) (at_lock lock Commands) rows =
      a ∙ ap (λ z. with_one z (at_lock l w) rows) f' ∙ ap (λ z. with_one (thread_at n (length others) Commands) (at_lock z w) rows) el ∙ ap (λ z. with_one (thread_at n (length others) Commands) (at_lock lock z) rows) ew in
      let b' : two ≡ with_one (thread_at n (length others) Links) (at_lock lock Links) one =
      b ∙ ap (λ z. with_one z (at_lock k v) one) h' ∙ ap (λ z. with_one (thread_at n (length others) Links) (at_lock z v) one) ek ∙ ap (λ z. with_one (thread_at n (length others) Links) (at_lock lock z) one) ev in
      let both : two ≡ with_both n (length others) lock rows = b' ∙ ap (with_one (thread_at n (length others) Links) (at_lock lock Links)) a' in
      d ∙ ap (λ z. with_all z 0 others two) em ∙ ap (with_all n 0 others) both ∙ sym (with-rest n others lock rows) ∙ ap (λ l. with_all n 0 l rows) (sym e)

  -- and so they leave
  pub taken-last : {V : Type 0} (P : List (List (CellLock × WorkerRole)) → List V → Type 0) (rows : List (List (CellLock × WorkerRole))) (back : List V) → locks ≡ others ++ lock ∷ [] → P (with_all n 0 locks rows) back
      → P (with_all n 0 others (with_both n (length others) lock rows)) back
  taken-last P rows back e p = subst (λ z. P z back) (ap (λ l. with_all n 0 l rows) e ∙ with-rest n others lock rows) p

  -- by the threads that were found
  pub taken-both : {V : Type 0} (P : List (List (CellLock × WorkerRole)) → List V → Type 0) (rows : List (List (CellLock × WorkerRole))) (back : List V) (m : ℕ) → m ≡ n → first ≡ thread_at m (length others) Commands
      → second ≡ thread_at m (length others) Links → P (with_both n (length others) lock rows) back → P (with_one second (at_lock lock Links) (with_one first (at_lock lock Commands) rows)) back
  taken-both P rows back m e f h p =
      let a : thread_at n (length others) Links ≡ second = sym (h ∙ ap (λ k. thread_at k (length others) Links) e) in
      let b : thread_at n (length others) Commands ≡ first = sym (f ∙ ap (λ k. thread_at k (length others) Commands) e) in
      subst (λ z. P z back) (ap (λ s. with_one s (at_lock lock Links) (with_one (thread_at n (length others) Commands) (at_lock lock Commands) rows)) a ∙ ap (λ s. with_one second (at_lock lock Links) (with_one s (at_lock lock Commands) rows)) b) p

module _ {V : Type 0} (f : V → ℕ × ℕ) where
  -- room for fewer
  pub room-less : (rows : List V) (more less : ℕ) → less ≤ more → HaveRoom more (map f rows) → HaveRoom less (map f rows)
  room-less [] more less le room = tt
  room-less (r ∷ rows) more less le room = (omega (arith, le, room.0), room-less rows more less le room.1)

  -- one place of a row was taken
  pub room-with : (rows : List V) (place : ℕ) (d v : V) (left : ℕ) → place < length rows → (f v).0 ≡ suc (f (get_or rows place d)).0 → (f v).1 ≡ (f (get_or rows place d)).1
      → HaveRoom (suc left) (map f rows) → HaveRoom left (map f (set rows place v))
  room-with [] place d v left lt e c room = absurd (omega (arith, lt))
  room-with (r ∷ rows) zero d v left lt e c room = (omega (arith, e, c, room.0), room-less rows (suc left) left (omega arith) room.1)
  room-with (r ∷ rows) (suc place) d v left lt e c room = (omega (arith, room.0), room-with rows place d v left (omega (arith, lt)) e c room.1)

  -- each has room
  pub room-at : (rows : List V) (place : ℕ) (d : V) (left : ℕ) → place < length rows → HaveRoom (suc left) (map f rows) → (f (get_or rows place d)).0 < (f (get_or rows place d)).1
  room-at [] place d left lt room = absurd (omega (arith, lt))
  room-at (r ∷ rows) zero d left lt room = omega (arith, room.0)
  room-at (r ∷ rows) (suc place) d left lt room = room-at rows place d left (omega (arith, lt)) room.1

  -- one more with room
  pub room-more : (rows : List V) (v : V) (left : ℕ) → HaveRoom left (map f rows) → (f v).0 + left ≤ (f v).1 → HaveRoom left (map f (rows ++ v ∷ []))
  room-more [] v left room one = (one, tt)
  room-more (r ∷ rows) v left room one = (room.0, room-more rows v left room.1 one)

-- what fits what was made of others fits these
pub pairs-made : {J B X : Type 0} (f : J → X) (P : X → B → Type 0) (jobs : List J) (done : List B) → Pairwise (λ j b. P (f j) b) jobs done → Pairwise P (map f jobs) done
pairs-made f P [] [] p = tt
pairs-made f P [] (b ∷ done) p = absurd p
pairs-made f P (j ∷ jobs) [] p = absurd p
pairs-made f P (j ∷ jobs) (b ∷ done) p = (p.0, pairs-made f P jobs done p.1)

-- one was set to another that is alike
pub same-set : {V X : Type 0} (f : V → X) (rows : List V) (place : ℕ) (d v : V) → f v ≡ f (get_or rows place d) → map f (set rows place v) ≡ map f rows
same-set f [] place d v e = refl
same-set f (r ∷ rows) zero d v e = ap (λ z. z ∷ map f rows) e
same-set f (r ∷ rows) (suc place) d v e = ap (λ z. f r ∷ z) (same-set f rows place d v e)
