-- What a core represents does not depend on its clock.
use Rattle.std.proofs.Common.{ℕ}
use Rattle.law_routing.specs.Net.{Net}
use Rattle.law_routing.specs.Server.{ServerState}
use Rattle.net_model.specs.Real.{real}
use Rattle.server_core.specs.Core.{CoreParts, RepresentsServer}

-- a core at another clock represents the same state
pub any-clock : (n : Net real) (core : CoreParts) (clock : ℕ) (state : ServerState real) → RepresentsServer n core state → RepresentsServer n (record core { clock = clock }) state
any-clock n core clock state is = record {
  among = is.among;
  control = is.control;
  installed = is.installed;
  installed_apart = is.installed_apart;
  pending = is.pending;
  clients = is.clients;
  scripts = is.scripts;
  taken = is.taken;
  inboxes = is.inboxes;
}
