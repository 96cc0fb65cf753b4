-- Defines what a worker promises of the pass that it gives back.
use Rattle.std.specs.Prelude.{◌≡◌, false, List, Option, Some, None}
use mathlib.Core.List.{IsPrefix}
use Rattle.base_devices.specs.declared.gate.WorkerRole.{WorkerRole}
use Rattle.base_devices.specs.declared.gate.WorkerRole.TheVariants.{Commands, Links}
use Rattle.thread_lock.specs.declared.lock.Pass.{Pass}
use Rattle.thread_lock.specs.Rule.{view_in}
use Rattle.thread_lock.specs.Passes.{IsSamePass, has_in_hand, seen_by}
use Rattle.net_model.specs.Parts.{EntryParts}
use Rattle.server_core.specs.declared.stepped.StepFault.{StepFault}
use Rattle.server_core.specs.declared.stepped.StepFault.TheVariants.{NoMemory, StampsExhausted}
use Rattle.thread_versions.specs.declared.viewer.Viewer.{Viewer}
use Rattle.thread_versions.specs.Ends.{IsSameViewer}
use Rattle.thread_cell.specs.declared.held.Root.{Root}
use Rattle.thread_workers.specs.declared.ended.Ended.{Ended}
use Rattle.thread_workers.specs.Journals.{HasCommands, IsWornBy}

-- the root that a pass knows
abbrev pub pass_root : Pass EntryParts Root → Option Root
pass_root pass = (view_in pass.badge.views).root

-- HOW A WORKER ENDS: one for commands without a fault once the journal has every command, or where no stamp is left; one for links as it likes, but
-- not for lack of stamps
abbrev pub EndsWith : WorkerRole → Root → List EntryParts → Option StepFault → Type 0
EndsWith Commands root journal None = HasCommands root.phase root journal
EndsWith Commands root journal (Some NoMemory) = Unit {0}
EndsWith Commands root journal (Some (StampsExhausted stamp)) = IsWornBy stamp root journal
EndsWith Links root journal None = Unit {0}
EndsWith Links root journal (Some NoMemory) = Unit {0}
EndsWith Links root journal (Some (StampsExhausted stamp)) = ⊥

-- WHAT A WORKER GIVES BACK: the pass that it was given, with nothing in hand, which has seen at least what it had seen; a viewer of the same publisher;
-- and it ends as it may
pub record Keeps (worker : WorkerRole) (given : Pass EntryParts Root) (viewer : Viewer) (back : Ended) : Type 0 where
  pub same : IsSamePass given back.pass
  pub free : has_in_hand back.pass ≡ false
  pub seen : IsPrefix (seen_by given) (seen_by back.pass)
  pub viewer_is : IsSameViewer viewer back.viewer
  pub ends : (root : Root) → pass_root given ≡ Some root → EndsWith worker root (seen_by back.pass) back.fault
