-- A journal with one entry more, and one journal more.
use Rattle.std.proofs.Common.{◌≡◌, ℕ, zero, suc, ◌+◌, ◌<◌, List, [], ◌∷◌, ◌++◌, inl, inr, length, map, slice_index_or, refl, sym, ap, subst, arith, length-append}
use Rattle.std.proofs.lemmas.List.{map-append}
use Rattle.base.specs.Sets.{Has}
use Rattle.net_model.specs.Parts.{EntryParts}
use Rattle.net_journal.specs.Merging.{IsJournalOf, AreServerJournals}
use Rattle.base.proofs.Sets.{has-append}

-- all entries are below this stamp
abbrev pub AllBelow : ℕ → List EntryParts → Type 0
AllBelow stamp entries = (e : EntryParts) → Has e entries → e.stamp < stamp

journal-more : (server : ℕ) (es : List EntryParts) (e : EntryParts) → IsJournalOf server es → e.server ≡ server → AllBelow e.stamp es → IsJournalOf server (es ++ e ∷ [])
journal-more server [] e j q h = (q, (λ f m. absurd m), tt)
journal-more server (x ∷ es) e j q h = (
  j.0,
  (λ f m. elim (has-append f es (e ∷ []) m) [ inl a ↦ j.1 f a | inr b ↦ elim b [ inl r ↦ omega (arith, ap (λ (z : EntryParts). z.stamp) r, h x (inl refl)) | inr c ↦ absurd c ] ]),
  journal-more server es e j.2 q (λ f m. h f (inr m)),
)

below-more : (stamp : ℕ) (es : List EntryParts) (e : EntryParts) → AllBelow stamp es → e.stamp ≡ stamp → AllBelow (stamp + 1) (es ++ e ∷ [])
below-more stamp es e h q f m =
    elim (has-append f es (e ∷ []) m) [ inl a ↦ omega (arith, h f a) | inr b ↦ elim b [ inl r ↦ omega (arith, ap (λ (z : EntryParts). z.stamp) r, q) | inr c ↦ absurd c ] ]

-- a journal whose next stamp is above all, with the next entry
pub next-entry : (server first more : ℕ) (es : List EntryParts) (e : EntryParts) → e.server ≡ server → e.stamp ≡ first + more
    → IsJournalOf server es × AllBelow (first + more) es → IsJournalOf server (es ++ e ∷ []) × AllBelow (first + (more + 1)) (es ++ e ∷ [])
next-entry server first more es e q r h = (
  journal-more server es e h.0 q (λ f m. omega (arith, h.1 f m, r)),
  λ f m. omega (arith, below-more (first + more) es e h.1 r f m),
)

at-place : (n : ℕ) (ls : List (List EntryParts)) (l : List EntryParts) → ((k : ℕ) → IsJournalOf (n + k) (slice_index_or ls k [])) → IsJournalOf (n + length ls) l
    → (k : ℕ) → IsJournalOf (n + k) (slice_index_or (ls ++ l ∷ []) k [])
at-place n [] l h j zero = j
at-place n [] l h j (suc k) = tt
at-place n (x ∷ ls) l h j zero = h zero
at-place n (x ∷ ls) l h j (suc k) =
    subst (λ s. IsJournalOf s (slice_index_or (ls ++ l ∷ []) k [])) (sym (shift k))
    (at-place (suc n) ls l (λ i. subst (λ s. IsJournalOf s (slice_index_or ls i [])) (shift i) (h (suc i))) (subst (λ s. IsJournalOf s l) (shift (length ls)) j) k)
  where
    shift : (i : ℕ) → n + suc i ≡ suc n + i
    shift i = omega arith

journals-more : (ls : List (List EntryParts)) (l : List EntryParts) → AreServerJournals ls → IsJournalOf (length ls + 1) l → AreServerJournals (ls ++ l ∷ [])
journals-more ls l are j zero = tt
journals-more ls l are j (suc k) =
    subst (λ s. IsJournalOf s (slice_index_or (ls ++ l ∷ []) k [])) (shift k)
    (at-place 1 ls l (λ i. subst (λ s. IsJournalOf s (slice_index_or ls i [])) (sym (shift i)) (are (suc i))) (subst (λ s. IsJournalOf s l) (omega arith) j) k)
  where
    shift : (i : ℕ) → 1 + i ≡ suc i
    shift i = omega arith

pub next-journal : {X : Type 0} (f : X → List EntryParts) (xs : List X) (x : X) (place : ℕ) → IsJournalOf (place + 1) (f x)
    → AreServerJournals (map f xs) × (length (map f xs) ≡ place) → AreServerJournals (map f (xs ++ x ∷ [])) × (length (map f (xs ++ x ∷ [])) ≡ place + 1)
next-journal f xs x place j h =
    rw (map-append f xs (x ∷ [])) (
      journals-more (map f xs) (f x) h.0 (subst (λ n. IsJournalOf (n + 1) (f x)) (sym h.1) j),
      omega (arith, length-append (map f xs) (f x ∷ []), h.1),
    )
