-- Clients by their names.
use Rattle.std.proofs.Common.{◌≡◌, ℕ, zero, suc, ◌+◌, ◌≤◌, ◌<◌, Bool, true, false, cond, List, [], ◌∷◌, length, slice_get, get_or, ◌⊎◌, inl, inr, Some, None, refl, sym, ap, subst, ◌∙◌, arith}
use Rattle.std.specs.Str.{bytes_eq}
use Rattle.std.proofs.lemmas.Bool.{cases_lt}
use Rattle.std.proofs.lemmas.Option.{same_Some}
use Rattle.base.proofs.Lists.{bytes_eq-self}
use Rattle.filter_constraints.proofs.BytesLemmas.{bytes_eq-tells}
use Rattle.net_model.specs.Parts.{ClientParts, NetParts}
use Rattle.net_model.specs.Nets.{client_at}
use Rattle.net_model.specs.Sound.{IsAmong, IsSound}
use Rattle.output_explain.specs.Asked.{IsNamed, IsNobody, number_from, number_of}

pub record HasNumber (place : ℕ) (name : List ℕ) (clients : List ClientParts) (number : ℕ) : Type 0 where
  pub at_place : ℕ
  pub client : ClientParts
  pub counted : number ≡ place + suc at_place
  pub at : slice_get clients at_place ≡ Some client
  pub named : bytes_eq client.name name ≡ true
  pub low : at_place < length clients

number_is : (place : ℕ) (name : List ℕ) (clients : List ClientParts) (number : ℕ) → number_from place name clients ≡ Some number → HasNumber place name clients number
number_is place name [] number e = absurd cc
number_is place name (client ∷ clients) number e = go (bytes_eq client.name name) refl (number_is (suc place) name clients number) e
  where
    go : (b : Bool) → bytes_eq client.name name ≡ b → (number_from (suc place) name clients ≡ Some number → HasNumber (suc place) name clients number)
        → cond b (Some (suc place)) (number_from (suc place) name clients) ≡ Some number → HasNumber place name (client ∷ clients) number
    go true q ih f = record { at_place = 0; client = client; counted = sym (same_Some _ _ f) ∙ one place; at = refl; named = q; low = omega arith }
      where
        one : (place : ℕ) → suc place ≡ place + suc zero
        one place = omega arith
    go false q ih f =
        let is = ih f in record {
          at_place = suc is.at_place;
          client = is.client;
          counted = omega (arith, is.counted);
          at = is.at;
          named = is.named;
          low = omega (arith, is.low);
        }

no_number : (place : ℕ) (name : List ℕ) (clients : List ClientParts) → number_from place name clients ≡ None
    → (i : ℕ) (client : ClientParts) → slice_get clients i ≡ Some client → client.name ≡ name → ⊥
no_number place name [] e i client at same = absurd cc
no_number place name (first ∷ clients) e zero client at same = go (bytes_eq first.name name) hit e
  where
    hit : bytes_eq first.name name ≡ true
    hit =
        subst (λ (z : ClientParts). bytes_eq z.name name ≡ true) (sym (same_Some _ _ at))
        (subst (λ z. bytes_eq client.name z ≡ true) same (bytes_eq-self client.name))

    go : (b : Bool) → b ≡ true → cond b (Some (suc place)) (number_from (suc place) name clients) ≡ None → ⊥
    go true q f = absurd cc
    go false q f = absurd cc
no_number place name (first ∷ clients) e (suc i) client at same = go (no_number (suc place) name clients) (bytes_eq first.name name) e
  where
    go : (number_from (suc place) name clients ≡ None → (i : ℕ) (client : ClientParts) → slice_get clients i ≡ Some client → client.name ≡ name → ⊥)
        → (b : Bool) → cond b (Some (suc place)) (number_from (suc place) name clients) ≡ None → ⊥
    go ih true f = absurd cc
    go ih false f = ih f i client at same

pub named_is : (net : NetParts) (name : List ℕ) (number : ℕ) → number_of name net.clients ≡ Some number
    → IsNamed net name number × IsAmong (length net.clients) number
named_is net name number e = (
  subst (IsNamed net name) (sym number_is_suc) (record { client = is.client; at = is.at; named = bytes_eq-tells is.client.name name is.named }),
  (omega (arith, is.counted), omega (arith, is.counted, is.low)),
)
  where
    is : HasNumber 0 name net.clients number
    is = number_is 0 name net.clients number e

    number_is_suc : number ≡ suc is.at_place
    number_is_suc = omega (arith, is.counted)

pub nobody_is : (net : NetParts) (name : List ℕ) → number_of name net.clients ≡ None → IsNobody net name
nobody_is net name e zero is = clash is.at
  where
    clash : client_at net.clients zero ≡ Some is.client → ⊥
    clash q = absurd cc
nobody_is net name e (suc place) is = no_number 0 name net.clients e place is.client is.at is.named

-- a name is of one client
one_name : (clients : List ClientParts) → ((i j : ℕ) (d : ClientParts) → i < j → j < length clients → (get_or clients i d).name ≡ (get_or clients j d).name → ⊥)
    → (i j : ℕ) (a b : ClientParts) → slice_get clients i ≡ Some a → slice_get clients j ≡ Some b → a.name ≡ b.name → i ≡ j
one_name clients apart i j a b p q same = go (cases_lt i j) (cases_lt j i)
  where
    there : (cs : List ClientParts) (k : ℕ) (c d : ClientParts) → slice_get cs k ≡ Some c → (k < length cs) × (get_or cs k d ≡ c)
    there [] k c d e = absurd cc
    there (x ∷ cs) zero c d e = (omega arith, same_Some _ _ e)
    there (x ∷ cs) (suc k) c d e = let t = there cs k c d e in (omega (arith, t.0), t.1)

    go : (i < j) ⊎ (j ≤ i) → (j < i) ⊎ (i ≤ j) → i ≡ j
    go (inl l) r = absurd (apart i j a l (there clients j b a q).0
        (ap (λ (z : ClientParts). z.name) (there clients i a a p).1 ∙ same ∙ sym (ap (λ (z : ClientParts). z.name) (there clients j b a q).1)))
    go (inr l) (inl r) = absurd (apart j i a r (there clients i a a p).0
        (ap (λ (z : ClientParts). z.name) (there clients j b a q).1 ∙ sym same ∙ sym (ap (λ (z : ClientParts). z.name) (there clients i a a p).1)))
    go (inr l) (inr r) = omega (arith, l, r)

pub same_number : (net : NetParts) → IsSound net → (name : List ℕ) (one other : ℕ) → IsNamed net name one → IsNamed net name other → one ≡ other
same_number net sound name zero other a b = absurd (clash a.at)
  where
    clash : client_at net.clients zero ≡ Some a.client → ⊥
    clash q = absurd cc
same_number net sound name (suc i) zero a b = absurd (clash b.at)
  where
    clash : client_at net.clients zero ≡ Some b.client → ⊥
    clash q = absurd cc
same_number net sound name (suc i) (suc j) a b =
    ap suc (one_name net.clients (λ i j d l m q. sound.names i j d l m q) i j a.client b.client a.at b.at (a.named ∙ sym b.named))
