-- What is owed is due, by the scripts alone.
use Rattle.std.proofs.Common.{◌≡◌, ℕ, suc, ◌≤◌, Bool, true, false, not, ◌||◌, [], take, refl, arith}
use Rattle.law_routing.specs.Theory.{Theory}
use Rattle.law_routing.specs.Net.{Net, NeverFalls}
use Rattle.law_routing.specs.Clients.{some_pass, filters_after, adverts_after, commands_below}
use Rattle.law_routing.specs.Owed.{IsPublication, IsOwed, IsDue}
use Rattle.law_routing.proofs.Listing.{pass-by}
use Rattle.law_routing.proofs.Scripts.{upto-count}

module _ (th : Theory) (net : Net th) (phased : (c : ℕ) → NeverFalls th (net.script c)) where
  pub owed-is-due : (q o k c : ℕ) (n : th.Notice) (p : IsPublication th net q o k n) → IsOwed th net q k n c → IsDue th net q k p.index n c
  owed-is-due q o k c n p owed = record {
    wanted = λ i m. pass-by (th.matches n) owed.filter (filters_after th [] (take i (net.script c))) (owed.always i m) owed.matches;
    allowed = λ i from to. go i from to net.adverts refl;
  }
    where
      go : (i : ℕ) → commands_below th k (net.script q) ≤ i → i ≤ p.index → (b : Bool) → net.adverts ≡ b → not b || some_pass (λ a. th.allows a n) (adverts_after th [] (take i (net.script q))) ≡ true
      go i from to false e = refl
      go i from to true e =
          let a = owed.allowed e in
          let upto : suc p.index ≤ commands_below th (suc k) (net.script q) = upto-count th k (net.script q) p.index p.command (phased q) p.at (omega (arith, p.phase)) in
          pass-by (λ a. th.allows a n) a.advert (adverts_after th [] (take i (net.script q))) (a.always i (record { from = from; upto = omega (arith, to, upto) })) a.allows
