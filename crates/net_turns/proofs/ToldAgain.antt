-- A journal that is made again entry by entry: its messages are told again, however a journal is read.
use Rattle.std.proofs.Common.{◌≡◌, ℕ, zero, suc, ◌+◌, ◌<◌, List, [], ◌∷◌, ◌++◌, length, get_or, take, sym, ap, subst, ◌∙◌, arith}
use Rattle.std.proofs.lemmas.List.{length-take-le, take_more}
use Rattle.std.proofs.Math.Seq.{take-length}
use Rattle.filter_text.specs.declared.sent.Sent.{Sent}
use Rattle.net_model.specs.Parts.{NetParts, EntryParts}
use Rattle.net_turns.specs.Network.{NetworkParts, network_parts}

-- the texts of the messages of a journal: those of its n-th entry, and those of entries from the n-th on
pub record MessageTexts : Type 0 where
  pub of_entry : NetParts → List EntryParts → ℕ → EntryParts → List Sent
  pub of_entries : NetParts → List EntryParts → ℕ → List EntryParts → List (List Sent)
  pub none : (net : NetParts) (whole : List EntryParts) (n : ℕ) → of_entries net whole n [] ≡ []
  pub more : (net : NetParts) (whole : List EntryParts) (n : ℕ) (entry : EntryParts) (entries : List EntryParts)
      → of_entries net whole n (entry ∷ entries) ≡ of_entry net whole n entry ∷ of_entries net whole (suc n) entries

module _ (texts : MessageTexts) where
  -- what is told of one entry more
  told-more : (net : NetParts) (whole : List EntryParts) (n : ℕ) (entries : List EntryParts) (entry : EntryParts)
      → texts.of_entries net whole n (entries ++ entry ∷ []) ≡ texts.of_entries net whole n entries ++ texts.of_entry net whole (n + length entries) entry ∷ []
  told-more net whole n [] entry =
      let same : n ≡ n + 0 = omega arith in
      texts.more net whole n entry []
      ∙ (λ i. texts.of_entry net whole (same i) entry ∷ texts.none net whole (suc n) i)
      ∙ ap (λ z. z ++ texts.of_entry net whole (n + 0) entry ∷ []) (sym (texts.none net whole n))
  told-more net whole n (first ∷ entries) entry =
      let same : suc n + length entries ≡ n + suc (length entries) = omega arith in
      texts.more net whole n first (entries ++ entry ∷ [])
      ∙ ap (λ z. texts.of_entry net whole n first ∷ z)
      (told-more net whole (suc n) entries entry ∙ ap (λ k. texts.of_entries net whole (suc n) entries ++ texts.of_entry net whole k entry ∷ []) same)
      ∙ ap (λ z. z ++ texts.of_entry net whole (n + suc (length entries)) entry ∷ []) (sym (texts.more net whole n first entries))

  -- so far a journal was made again, and its messages told
  pub record IsToldTo (count : ℕ) (net : NetParts) (journal : List EntryParts) (made : NetworkParts) (lists : List (List Sent)) : Type 0 where
    pub network : made ≡ network_parts net (take count journal)
    pub told : lists ≡ texts.of_entries net journal zero (take count journal)

  pub told-none : (net : NetParts) (journal : List EntryParts) (network : NetworkParts) (told : List (List Sent)) → network ≡ network_parts net [] → told ≡ [] → IsToldTo 0 net journal network told
  told-none net journal network told e f = record { network = e; told = f ∙ sym (texts.none net journal zero) }

  -- one entry more, whose messages are those that it has in the whole journal
  pub told-next : (net : NetParts) (journal : List EntryParts) (i : ℕ) (d : EntryParts) → i < length journal → (old new : NetworkParts) (told : List (List Sent)) (last : List Sent) (after : List (List Sent))
      → IsToldTo i net journal old told → new ≡ network_parts net (take i journal ++ get_or journal i d ∷ [])
      → texts.of_entry net (take i journal ++ get_or journal i d ∷ []) (length (take i journal)) (get_or journal i d) ≡ texts.of_entry net journal i (get_or journal i d)
      → ((before : List EntryParts) (entry : EntryParts) → new.journal ≡ before ++ entry ∷ [] → last ≡ texts.of_entry new.net new.journal (length before) entry)
      → after ≡ told ++ last ∷ [] → IsToldTo (i + 1) net journal new after
  told-next net journal i d less old new told last after so new-is again tells e =
      let last-is : last ≡ texts.of_entry net (take i journal ++ get_or journal i d ∷ []) (length (take i journal)) (get_or journal i d) =
      subst (λ (z : NetworkParts). last ≡ texts.of_entry z.net z.journal (length (take i journal)) (get_or journal i d)) new-is (tells (take i journal) (get_or journal i d) (ap (λ (z : NetworkParts). z.journal) new-is)) in
      let here : zero + length (take i journal) ≡ i = omega (arith, length-take-le i journal (omega (arith, less))) in
      record {
        network = new-is ∙ ap (network_parts net) (sym (take_more journal i d less));
        told = e
            ∙ ((λ k. so.told k ++ (last-is ∙ again) k ∷ [])
            ∙ (ap (λ n. texts.of_entries net journal zero (take i journal) ++ texts.of_entry net journal n (get_or journal i d) ∷ []) (sym here)
            ∙ (sym (told-more net journal zero (take i journal) (get_or journal i d))
            ∙ ap (texts.of_entries net journal zero) (sym (take_more journal i d less)))));
      }

  pub told-all : (net : NetParts) (journal : List EntryParts) (count : ℕ) (network : NetworkParts) (told : List (List Sent)) → count ≡ length journal → IsToldTo count net journal network told
      → told ≡ texts.of_entries net journal zero journal
  told-all net journal count network told e so = so.told ∙ ap (texts.of_entries net journal zero) (ap (λ n. take n journal) e ∙ take-length journal)
