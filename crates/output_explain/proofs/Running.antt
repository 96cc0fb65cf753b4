-- A verdict in the runs of servers.
use Rattle.std.proofs.Common.{◌≡◌, ℕ, true, false, List, sym, subst, ◌∙◌}
use Rattle.base.specs.Sets.{Has}
use Rattle.law_phases.specs.Trees.{PhasedNet}
use Rattle.law_phases.specs.Runs.{PhasedRun}
use Rattle.law_phases.specs.AtMoments.{EndsDrained, inbox_at}
use Rattle.law_phases.specs.Owing.{IsOwedByScripts, IsAllowedByScripts}
use Rattle.law_phases.specs.Routes.{IsDeliveredOnce}
use Rattle.law_phases.proofs.Whole.{owed-once-in, delivered-allowed}
use Rattle.net_model.specs.Real.{real, real_laws}
use Rattle.net_model.specs.Parts.{NetParts}
use Rattle.net_model.specs.Nets.{home_of, phased_net}
use Rattle.output_explain.specs.declared.answer.Explanation.{Explanation}
use Rattle.output_explain.specs.declared.verdict.Verdict.TheVariants as verdicts
use Rattle.output_explain.specs.Explained.{IsAnswer, publication_of}
use Rattle.output_explain.specs.Verdicts.{is_given}
use Rattle.output_explain.proofs.Promised.{lives, owed_as_promised, allowed_as_promised}

pub owed_in_runs : (net : NetParts) (client publisher : List ℕ) (ordinal : ℕ) (e : Explanation) → IsAnswer net client publisher ordinal e
    → e.verdict ≡ verdicts.Owed → (run : PhasedRun real) → run.net ≡ phased_net net → EndsDrained real run
    → IsDeliveredOnce real run (publication_of e) e.client
owed_in_runs net client publisher ordinal e is owed run same drained =
    owed-once-in real real_laws run drained (publication_of e) e.client
    (subst (λ (z : PhasedNet real). IsOwedByScripts real z (publication_of e) e.client) (sym same)
    ((owed_as_promised net client publisher ordinal e is).0 owed))

pub never_in_runs : (net : NetParts) (client publisher : List ℕ) (ordinal : ℕ) (e : Explanation) → IsAnswer net client publisher ordinal e
    → is_given e.verdict ≡ false → (run : PhasedRun real) → run.net ≡ phased_net net → (n : ℕ)
    → Has (publication_of e) (inbox_at real run n (home_of net e.client) e.client) → ⊥
never_in_runs net client publisher ordinal e is never run same n has = clash (sym never ∙ given)
  where
    here : Has e.client (run.net.clients (home_of net e.client))
    here = subst (λ (z : PhasedNet real). Has e.client (z.clients (home_of net e.client))) (sym same) (lives net e.client is.of_client.client is.of_client.at)

    given : is_given e.verdict ≡ true
    given =
        (allowed_as_promised net e is.explained).1
        (subst (λ (z : PhasedNet real). IsAllowedByScripts real z (publication_of e) e.client) same
        (delivered-allowed real real_laws run n (home_of net e.client) e.client (publication_of e) here has))

    clash : false ≡ true → ⊥
    clash q = absurd cc
