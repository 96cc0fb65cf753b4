use Rattle.law_phases.proofs.flooding.owes_due.Goals as goal

pub returns : goal.returns
returns hold c net publication client o = record {
  phase = o.phase;
  published = o.published;
  wanted = λ count moment. o.due.wanted count (record { from = moment.from; upto = moment.upto });
  here = o.here;
  lives = o.lives;
}
