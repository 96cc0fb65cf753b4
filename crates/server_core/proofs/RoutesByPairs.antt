-- The routes by pairs that represent what is installed are those of the installed filters.
use Rattle.std.proofs.Common.{◌≡◌, ◌<◌, ℕ, zero, suc, true, List, [], ◌∷◌, length, slice_get, get_or, Some, Result, Ok, Err, IfOk, inl, inr, refl, sym, ap, subst, ◌∙◌, arith}
use Rattle.filter_constraints.specs.Constraint.{ConstraintParts}
use Rattle.filter_types.specs.Notice.{Attribute, AreValues}
use Rattle.filter_types.specs.Cover.{matches}
use Rattle.base.specs.Sets.{Has}
use Rattle.base_bits.specs.Rows.{Numbers}
use Rattle.law_routing.specs.Clients.{some_pass}
use Rattle.law_routing.proofs.Listing.{pass-by, by-pass}
use Rattle.net_model.specs.Real.{real}
use Rattle.net_model.specs.Parts.{NetParts}
use Rattle.net_model.proofs.Meaning.{matches_plain}
use Rattle.filter_text.specs.Messages.{Lists}
use Rattle.net_tables.specs.Known.{PublicationParts, known_filters}
use Rattle.net_tables.specs.Found.{IsFound}
use Rattle.match_filters.specs.Matching.{matched}
use Rattle.match_filters.proofs.Members.{matched-iff}
use Rattle.match_routes.specs.Installed.{Pair}
use Rattle.match_routes.specs.Routes.{IsRouteBy}
use Rattle.server_core.specs.Core.{CoreParts, installed_from}
use Rattle.server_core.specs.Routed.{IsRoute}
use Rattle.server_core.specs.Pending.{RepresentPairs}
use Rattle.base.proofs.Sets.{has-contains, contains-has}

-- a number below the count has an item, and an item has a number
pub data Numbered (items : Lists) (k : ℕ) : Type 0 where
  At : (f : List ConstraintParts) → slice_get items k ≡ Some f → get_or items k [] ≡ f → Numbered items k

pub numbered : (items : Lists) (k : ℕ) → k < length items → Numbered items k
numbered [] k l = absurd (omega (arith, l))
numbered (f ∷ fs) zero l = At f refl refl
numbered (f ∷ fs) (suc k) l = go (numbered fs k (omega (arith, l)))
  where
    go : Numbered fs k → Numbered (f ∷ fs) (suc k)
    go (At g e d) = At g e d

pub record NumberOf (items : Lists) (f : List ConstraintParts) : Type 0 where
  pub number : ℕ
  pub at : slice_get items number ≡ Some f
  pub within : number < length items
  pub is : get_or items number [] ≡ f

pub number-of : (items : Lists) (f : List ConstraintParts) → Has f items → NumberOf items f
number-of [] f h = absurd h
number-of (g ∷ gs) f (inl e) = record { number = 0; at = ap Some (sym e); within = omega arith; is = sym e }
number-of (g ∷ gs) f (inr h) =
    let r = number-of gs f h in
    let l = r.within in
    record { number = suc r.number; at = r.at; within = omega (arith, l); is = r.is }

module _ (net : NetParts) (installed : ℕ → Lists) (pairs : List Pair) (stands : RepresentPairs (known_filters net.clients) installed pairs)
    (known : (i : ℕ) (f : List ConstraintParts) → Has f (installed i) → Has f (known_filters net.clients)) where
  pub route-is : (n : List Attribute) (r : List ℕ) → AreValues n → IsRouteBy (matched n (known_filters net.clients)) pairs r → IsRoute n installed r
  route-is n r values by = record { rising = by.rising; exact = λ i. (onto i, from i) }
    where
      plain : (f : List ConstraintParts) → real.matches n f ≡ matches n f
      plain f = ap (λ m. m f) (matches_plain n values)

      onto : (i : ℕ) → Has i r → some_pass (real.matches n) (installed i) ≡ true
      onto i h =
          let m = (by.exact i).0 (has-contains i r h) in
          let k = (matched-iff n (known_filters net.clients) m.0).0 m.1 in
          go m.0 (numbered (known_filters net.clients) m.0 k.0) k.1 m.2
        where
          go : (k : ℕ) → Numbered (known_filters net.clients) k → matches n (get_or (known_filters net.clients) k []) ≡ true → Has (i, k) pairs
              → some_pass (real.matches n) (installed i) ≡ true
          go k (At f e d) t p = pass-by (real.matches n) f (installed i) ((stands i k f e).0 p) (plain f ∙ (ap (matches n) (sym d) ∙ t))

      from : (i : ℕ) → some_pass (real.matches n) (installed i) ≡ true → Has i r
      from i e =
          let m = by-pass (real.matches n) (installed i) e in
          let k = number-of (known_filters net.clients) m.0 (known i m.0 m.1) in
          contains-has i r ((by.exact i).1 (
            k.number,
            (matched-iff n (known_filters net.clients) k.number).1 (k.within, ap (matches n) k.is ∙ (sym (plain m.0) ∙ m.2)),
            (stands i k.number m.0 k.at).1 m.1,
          ))

-- of a publication that is found
module _ (core : CoreParts) (pairs : List Pair) (stands : RepresentPairs (known_filters core.net.clients) (installed_from core) pairs)
    (known : (i : ℕ) (f : List ConstraintParts) → Has f (installed_from core i) → Has f (known_filters core.net.clients)) (p : PublicationParts) (found : Numbers) (is : IsFound core.net p found) where
  pub route-of-found : (r : List ℕ) → IsRouteBy found.members pairs r → IsRoute p.notice (installed_from core) r
  route-of-found r by = route-is core.net (installed_from core) pairs stands known p.notice r is.values (subst (λ (m : Numbers). IsRouteBy m.members pairs r) is.matched by)

  pub route-answered : {E : Type 0} (answer : Result (List ℕ) E) → IfOk answer (λ r. IsRouteBy found.members pairs r) → IfOk answer (λ r. IsRoute p.notice (installed_from core) r)
  route-answered (Ok r) by = route-of-found r by
  route-answered (Err e) by = tt
