use Rattle.std.proofs.Common.{take}
use Rattle.net_model.specs.Real.{real, real_laws}
use Rattle.net_model.specs.Nets.{script_of}
use Rattle.net_model.proofs.Adding.{filters-sorted, adverts-sorted}
use Rattle.net_model.proofs.law.client_lists.Goals as goal

pub returns : goal.returns
returns c = record {
  filters = λ net client count. filters-sorted real real_laws (take count (script_of net client));
  adverts = λ net client count. adverts-sorted real real_laws (take count (script_of net client));
}
