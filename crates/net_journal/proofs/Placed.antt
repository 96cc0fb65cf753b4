-- What is put in by stamp, of what stands by server: by stamp and then by server.
use Rattle.std.proofs.Common.{◌≡◌, ℕ, ◌≤◌, ◌<◌, Bool, true, false, cond, leb, List, [], ◌∷◌, ◌⊎◌, inl, inr, filter, refl, sym, ap, subst, ◌∙◌, arith}
use Rattle.std.proofs.lemmas.Bool.{le-leb, leb-true, leb-false}
use Rattle.base.specs.Sets.{Has}
use Rattle.net_model.specs.Parts.{EntryParts}
use Rattle.net_journal.specs.Merging.{AreServerJournals, journal_at, placed, by_stamp, merged_of}
use Rattle.net_journal.proofs.Lists.{Later}
use Rattle.net_journal.proofs.Joined.{joined, is_of, IsRanked, ranked, parts}
use Rattle.net_journal.proofs.Sorted.{IsSooner, same-parts}

-- the members stay
placed-has : (e f : EntryParts) (xs : List EntryParts) → Has f (placed e xs) → (f ≡ e) ⊎ Has f xs
placed-has e f [] h = h
placed-has e f (x ∷ xs) h = go (leb e.stamp x.stamp) (placed-has e f xs) h
  where
    go : (b : Bool) → (Has f (placed e xs) → (f ≡ e) ⊎ Has f xs) → Has f (cond b (e ∷ x ∷ xs) (x ∷ placed e xs)) → (f ≡ e) ⊎ Has f (x ∷ xs)
    go true ih h = h
    go false ih (inl q) = inr (inl q)
    go false ih (inr m) = elim (ih m) [ inl q ↦ inl q | inr n ↦ inr (inr n) ]

has-placed : (e f : EntryParts) (xs : List EntryParts) → (f ≡ e) ⊎ Has f xs → Has f (placed e xs)
has-placed e f [] h = h
has-placed e f (x ∷ xs) h = go (leb e.stamp x.stamp) (has-placed e f xs) h
  where
    go : (b : Bool) → ((f ≡ e) ⊎ Has f xs → Has f (placed e xs)) → (f ≡ e) ⊎ Has f (x ∷ xs) → Has f (cond b (e ∷ x ∷ xs) (x ∷ placed e xs))
    go true ih h = h
    go false ih (inl q) = inr (ih (inl q))
    go false ih (inr (inl q)) = inl q
    go false ih (inr (inr m)) = inr (ih (inr m))

pub by-stamp-has : (f : EntryParts) (xs : List EntryParts) → Has f (by_stamp xs) → Has f xs
by-stamp-has f [] h = h
by-stamp-has f (x ∷ xs) h = elim (placed-has x f (by_stamp xs) h) [ inl q ↦ inl q | inr m ↦ inr (by-stamp-has f xs m) ]

pub has-by-stamp : (f : EntryParts) (xs : List EntryParts) → Has f xs → Has f (by_stamp xs)
has-by-stamp f [] h = h
has-by-stamp f (x ∷ xs) (inl q) = has-placed x f (by_stamp xs) (inl q)
has-by-stamp f (x ∷ xs) (inr m) = has-placed x f (by_stamp xs) (inr (has-by-stamp f xs m))

-- an entry whose stamp is no higher, and that stands before by server, is sooner
sooner : (e f : EntryParts) → IsRanked e f → leb e.stamp f.stamp ≡ true → IsSooner e f
sooner e f r h = go r (order e.stamp f.stamp (leb-true e.stamp f.stamp h))
  where
    order : (a b : ℕ) → a ≤ b → (a < b) ⊎ (a ≡ b)
    order a b h = grind arith

    go : IsRanked e f → (e.stamp < f.stamp) ⊎ (e.stamp ≡ f.stamp) → IsSooner e f
    go r (inl l) = inl l
    go (inl l) (inr q) = inr (q, l)
    go (inr l) (inr q) = absurd (omega (arith, q, l.1))

-- one that is sooner than another has no higher stamp
low : (e f : EntryParts) → IsSooner e f → e.stamp ≤ f.stamp
low e f (inl l) = omega (arith, l)
low e f (inr l) = omega (arith, l.0)

placed-order : (e : EntryParts) (xs : List EntryParts) → ((f : EntryParts) → Has f xs → IsRanked e f) → Later IsSooner xs → Later IsSooner (placed e xs)
placed-order e [] r o = (λ f h. absurd h, tt)
placed-order e (x ∷ xs) r o = go (leb e.stamp x.stamp) refl (placed-order e xs (λ f m. r f (inr m)) o.1)
  where
    rest : leb e.stamp x.stamp ≡ true → (f : EntryParts) → Has f (x ∷ xs) → IsSooner e f
    rest b f (inl q) = sooner e f (r f (inl q)) (subst (λ (z : EntryParts). leb e.stamp z.stamp ≡ true) (sym q) b)
    rest b f (inr m) = sooner e f (r f (inr m)) (le-leb e.stamp f.stamp (omega (arith, leb-true e.stamp x.stamp b, low x f (o.0 f m))))

    before : leb e.stamp x.stamp ≡ false → (f : EntryParts) → Has f (placed e xs) → IsSooner x f
    before b f h = elim (placed-has e f xs h) [ inl q ↦ inl (omega (arith, leb-false e.stamp x.stamp b, ap (λ (z : EntryParts). z.stamp) q)) | inr m ↦ o.0 f m ]

    go : (b : Bool) → leb e.stamp x.stamp ≡ b → Later IsSooner (placed e xs) → Later IsSooner (cond b (e ∷ x ∷ xs) (x ∷ placed e xs))
    go true b ih = (rest b, o)
    go false b ih = (before b, ih)

pub by-stamp-order : (xs : List EntryParts) → Later IsRanked xs → Later IsSooner (by_stamp xs)
by-stamp-order [] r = tt
by-stamp-order (x ∷ xs) r = placed-order x (by_stamp xs) (λ f h. r.0 f (by-stamp-has f xs h)) (by-stamp-order xs r.1)

-- of journals one after the other
module _ (lists : List (List EntryParts)) (are : AreServerJournals lists) where
  pub merged_of-order : Later IsSooner (merged_of lists)
  unfolding merged_of
  merged_of-order = by-stamp-order (joined lists) (ranked lists are)

  pub merged_of-parts : (server : ℕ) → filter (is_of server) (merged_of lists) ≡ journal_at lists server
  unfolding merged_of
  merged_of-parts server =
      same-parts (joined lists) (by_stamp (joined lists)) (ranked lists are) (by-stamp-order (joined lists) (ranked lists are))
      (λ e. by-stamp-has e (joined lists))
      (λ e. has-by-stamp e (joined lists))
      server
      ∙ parts lists are server
