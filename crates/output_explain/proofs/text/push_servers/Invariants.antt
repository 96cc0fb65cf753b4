use Rattle.std.proofs.Common.{◌≡◌, ◌++◌, take}
use Rattle.std.specs.List.{flat_map}
use Rattle.output_explain.specs.Text.{server_text}
use Rattle.output_explain.proofs.text.push_servers.Given as goal

abbrev pub invariant-loop-server : goal.invariant-loop-server
invariant-loop-server l = l.out.items ≡ l.initial.out.items ++ flat_map server_text (take l.server-index l.path)
