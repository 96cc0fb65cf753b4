-- The publications of all clients, and the rows of one.
use Rattle.std.proofs.Common.{◌≡◌, ℕ, zero, suc, ◌+◌, ◌<◌, ◌≤◌, Bool, true, false, cond, ◌&&◌, ◌⊎◌, inl, inr, List, [], ◌∷◌, slice_get, Some, refl, sym, ap, subst, ◌∙◌, arith}
use Rattle.std.proofs.lemmas.Bool.Decides.{nat_tests}
use Rattle.std.proofs.lemmas.Option.{same_Some}
use Rattle.base.specs.Sets.{Has, IsRising}
use Rattle.filter_text.specs.declared.semantics.Semantics.{Semantics}
use Rattle.filter_text.specs.declared.id.Id.{Id}
use Rattle.net_model.specs.Parts.{ClientParts}
use Rattle.output_flood.specs.declared.owed.OwedRow.{OwedRow}
use Rattle.output_flood.specs.declared.publication.Publication.{Publication}
use Rattle.output_flood.specs.Flooding.{id_before, row_before}
use Rattle.output_flood.specs.Held.{Script, some_filters, every_filters}
use Rattle.output_flood.specs.Publications.{is_met, accepted_from, accepted_of, with_row, rows_of}
use Rattle.output_flood.proofs.Publishing.{p_before, accepted_above, accepted_rising}
use Rattle.base.proofs.Sets.{has-append-left, has-append-right, has-append, rising-append}

-- whose publication it is
pub record Whose (semantics : Semantics) (clients : List ClientParts) (m : ℕ) (p : Publication) : Type 0 where
  pub place : ℕ
  pub client : ClientParts
  pub at : slice_get clients place ≡ Some client
  pub accepted : Has p (accepted_from semantics (m + place) client.script [] 0 client.script)

plus_zero : (m : ℕ) → m ≡ m + 0
plus_zero m = omega arith

plus_next : (m place : ℕ) → (m + 1) + place ≡ m + suc place
plus_next m place = omega arith

pub whose : (semantics : Semantics) (clients : List ClientParts) (m : ℕ) (p : Publication) → Has p (accepted_of semantics m clients) → Whose semantics clients m p
whose semantics [] m p h = absurd h
whose semantics (c ∷ cs) m p h = go (whose semantics cs (m + 1) p) (has-append p (accepted_from semantics m c.script [] 0 c.script) (accepted_of semantics (m + 1) cs) h)
  where
    go : (Has p (accepted_of semantics (m + 1) cs) → Whose semantics cs (m + 1) p)
        → Has p (accepted_from semantics m c.script [] 0 c.script) ⊎ Has p (accepted_of semantics (m + 1) cs) → Whose semantics (c ∷ cs) m p
    go ih (inl a) = record { place = 0; client = c; at = refl; accepted = subst (λ z. Has p (accepted_from semantics z c.script [] 0 c.script)) (plus_zero m) a }
    go ih (inr b) = let r = ih b in record {
      place = suc r.place;
      client = r.client;
      at = r.at;
      accepted = subst (λ z. Has p (accepted_from semantics z r.client.script [] 0 r.client.script)) (plus_next m r.place) r.accepted;
    }

pub of_client : (semantics : Semantics) (clients : List ClientParts) (m place : ℕ) (client : ClientParts) (p : Publication) → slice_get clients place ≡ Some client
    → Has p (accepted_from semantics (m + place) client.script [] 0 client.script) → Has p (accepted_of semantics m clients)
of_client semantics [] m place client p e h = absurd cc
of_client semantics (c ∷ cs) m zero client p e h =
    has-append-left p (accepted_from semantics m c.script [] 0 c.script) (accepted_of semantics (m + 1) cs)
    (subst (λ z. Has p (accepted_from semantics z c.script [] 0 c.script)) (sym (plus_zero m))
    (subst (λ (z : ClientParts). Has p (accepted_from semantics (m + 0) z.script [] 0 z.script)) (sym (same_Some _ _ e)) h))
of_client semantics (c ∷ cs) m (suc place) client p e h =
    has-append-right p (accepted_from semantics m c.script [] 0 c.script) (accepted_of semantics (m + 1) cs)
    (of_client semantics cs (m + 1) place client p e
    (subst (λ z. Has p (accepted_from semantics z client.script [] 0 client.script)) (sym (plus_next m place)) h))

of_above : (semantics : Semantics) (clients : List ClientParts) (m : ℕ) (p : Publication) → Has p (accepted_of semantics m clients) → m ≤ p.id.publisher
of_above semantics clients m p h =
    let w = whose semantics clients m p h in
    omega (arith, (accepted_above semantics (m + w.place) w.client.script w.client.script [] 0 p w.accepted).1)

lower_first : (a b : Id) → a.publisher < b.publisher → id_before a b ≡ true
lower_first a b l = grind (arith, nat_tests, l)

pub of_rising : (semantics : Semantics) (clients : List ClientParts) (m : ℕ) → IsRising p_before (accepted_of semantics m clients)
of_rising semantics [] m = tt
of_rising semantics (c ∷ cs) m =
    rising-append p_before (accepted_from semantics m c.script [] 0 c.script) (accepted_of semantics (m + 1) cs)
    (accepted_rising semantics m c.script c.script [] 0) (of_rising semantics cs (m + 1))
    (λ x y h k. lower_first x.id y.id (omega (arith, (accepted_above semantics m c.script c.script [] 0 x h).1, of_above semantics cs (m + 1) y k)))

-- the row of a publication
abbrev pub row_at : Script → Publication → OwedRow
row_at script p = record { id = p.id; must = p.advertised && is_met (every_filters p.phase script) p.notice }

pub record RowOf (script : Script) (publications : List Publication) (row : OwedRow) : Type 0 where
  pub publication : Publication
  pub listed : Has publication publications
  pub met : is_met (some_filters publication.phase script) publication.notice ≡ true
  pub is : row ≡ row_at script publication

pub rows_to : (script : Script) (publications : List Publication) (row : OwedRow) → Has row (rows_of script publications) → RowOf script publications row
rows_to script [] row h = absurd h
rows_to script (p ∷ publications) row h = go (rows_to script publications row) (is_met (some_filters p.phase script) p.notice) refl h
  where
    go : (Has row (rows_of script publications) → RowOf script publications row) → (b : Bool) → is_met (some_filters p.phase script) p.notice ≡ b
        → Has row (cond b (row_at script p ∷ rows_of script publications) (rows_of script publications)) → RowOf script (p ∷ publications) row
    go ih true e (inl i) = record { publication = p; listed = inl refl; met = e; is = i }
    go ih true e (inr r) = let w = ih r in record { publication = w.publication; listed = inr w.listed; met = w.met; is = w.is }
    go ih false e r = let w = ih r in record { publication = w.publication; listed = inr w.listed; met = w.met; is = w.is }

pub rows_from : (script : Script) (publications : List Publication) (p : Publication) → Has p publications
    → is_met (some_filters p.phase script) p.notice ≡ true → Has (row_at script p) (rows_of script publications)
rows_from script [] p h e = absurd h
rows_from script (r ∷ publications) p (inl i) e =
    subst (λ z. Has (row_at script z) (with_row script r (rows_of script publications))) (sym i)
    (head (is_met (some_filters r.phase script) r.notice) (ap (λ (z : Publication). is_met (some_filters z.phase script) z.notice) (sym i) ∙ e))
  where
    head : (b : Bool) → b ≡ true → Has (row_at script r) (cond b (row_at script r ∷ rows_of script publications) (rows_of script publications))
    head true q = inl refl
    head false q = absurd cc
rows_from script (r ∷ publications) p (inr h) e = later (is_met (some_filters r.phase script) r.notice) (rows_from script publications p h e)
  where
    later : (b : Bool) → Has (row_at script p) (rows_of script publications)
        → Has (row_at script p) (cond b (row_at script r ∷ rows_of script publications) (rows_of script publications))
    later true h = inr h
    later false h = h

pub rows_rising : (script : Script) (publications : List Publication) → IsRising p_before publications → IsRising row_before (rows_of script publications)
rows_rising script [] r = tt
rows_rising script (p ∷ publications) r = go (is_met (some_filters p.phase script) p.notice) (rows_rising script publications r.1)
  where
    after : (row : OwedRow) → Has row (rows_of script publications) → id_before p.id row.id ≡ true
    after row h =
        let w = rows_to script publications row h in
        ap (λ (z : OwedRow). id_before p.id z.id) w.is ∙ r.0 w.publication w.listed

    go : (b : Bool) → IsRising row_before (rows_of script publications) → IsRising row_before (cond b (row_at script p ∷ rows_of script publications) (rows_of script publications))
    go true ih = (after, ih)
    go false ih = ih
