-- A link never carries more notifications than plain flooding puts on it.
use Rattle.std.proofs.Common.{◌≡◌, ℕ, suc, ◌+◌, ◌≤◌, List, [], length, take, slice_get, Some, ap, subst, ◌∙◌, arith}
use Rattle.base.specs.Sets.{Has}
use Rattle.base.specs.Numbers.{sum_over}
use Rattle.law_routing.specs.Theory.{Theory, TheoryLaws}
use Rattle.law_routing.specs.Clients.{ordinal}
use Rattle.law_phases.specs.Trees.{JournalEntry, net_at}
use Rattle.law_phases.specs.Runs.{PhasedRun}
use Rattle.law_phases.specs.Economy.{flooded, flooded_by, floods_over}
use Rattle.law_phases.specs.Economy.{AreClients, noticed}
use Rattle.law_phases.proofs.Carrying.{Puts, published, floods, upto, upto-rises, put-by, by-publishers}
use Rattle.law_phases.proofs.Publishing.{accepted, as-many, is-accepted}
use Rattle.law_phases.proofs.Sums.{rising-within, sum-le}
use Rattle.base.proofs.Sets.{get-has}

module _ (th : Theory) (laws : TheoryLaws th) (run : PhasedRun th) (clients : List ℕ) (known : AreClients th run.net clients) (from to : ℕ) where
  -- the ordinals of a client's publications that flooding sends over the link
  abbrev pub sent_by_flooding : ℕ → List ℕ
  sent_by_flooding q = accepted th (net_at th run.net 0) (floods_over th run.net (run.net.home q) from to) [] 0 (run.net.script q)

  pub flood-many : (q : ℕ) → length (sent_by_flooding q) ≡ flooded_by th run.net from to q
  flood-many q = as-many th (net_at th run.net 0) (floods_over th run.net (run.net.home q) from to) [] 0 (run.net.script q)

  pub publisher-known : (n : ℕ) (e : JournalEntry) (is : slice_get run.journal n ≡ Some e) (s : Puts th laws run n e from to) → Has s.publisher clients
  publisher-known n e is s = let p = published th laws run n e is from to s in known.each s.publisher p.command (get-has (run.net.script s.publisher) p.index p.command p.at)

  pub all-noticed : noticed th run (length run.journal) from to ≡ sum_over (λ q. length (upto th laws run q (length run.journal) from to)) clients
  all-noticed = by-publishers th laws run clients known.single from to publisher-known (length run.journal)

  -- what is put flooding sends too
  flooded-too : (n q o : ℕ) → Has o (upto th laws run q n from to) → Has o (sent_by_flooding q)
  flooded-too n q o h =
      let a = put-by th laws run q n o from to h in
      let s = a.here.puts in
      let p = published th laws run a.moment a.entry a.slot from to s in
      let f = floods th laws run a.moment a.entry a.slot from to s in
      let there : Has s.ordinal (sent_by_flooding s.publisher) =
      is-accepted th (net_at th run.net 0) (floods_over th run.net (run.net.home s.publisher) from to) [] 0 (run.net.script s.publisher) p.index p.command s.notice s.ordinal p.at p.publishes (zero-plus (ordinal th (take (suc p.index) (run.net.script s.publisher))) ∙ p.ordinal) p.allowed (ap (floods_over th run.net (run.net.home s.publisher) from to) p.phase ∙ f) in
      subst (λ z. Has z (sent_by_flooding q)) a.here.ordinal (subst (λ z. Has s.ordinal (sent_by_flooding z)) a.here.publisher there)
    where
      zero-plus : (n : ℕ) → 0 + n ≡ n
      zero-plus n = omega arith

  pub never-more-by : (n : ℕ) → noticed th run n from to ≤ flooded th run.net clients from to
  never-more-by n =
      let each = sum-le (λ q. length (upto th laws run q n from to)) (flooded_by th run.net from to) clients
      (λ q h. (let l = rising-within (upto th laws run q n from to) (sent_by_flooding q) (upto-rises th laws run q n from to) (λ o i. flooded-too n q o i) in omega (arith, l, flood-many q))) in
      omega (arith, by-publishers th laws run clients known.single from to publisher-known n, each)

  pub never-more : noticed th run (length run.journal) from to ≤ flooded th run.net clients from to
  never-more = never-more-by (length run.journal)
