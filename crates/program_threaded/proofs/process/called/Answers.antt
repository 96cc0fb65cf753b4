use Rattle.program_threaded.proofs.process.called.Goals as goal

pub returns-then-is_quiet : goal.returns-then-is_quiet
returns-then-is_quiet g c =
    let e = c.quiet_with_devices.ensures in record {
      outcome = e.outcome;
      sure = e.sure;
      sure_written = e.sure_written;
      unread = e.unread;
      at_most = e.at_most;
      told = e.told;
      end = e.end;
      read_out = e.read_out;
      kept = e.held;
      unwritten = e.unwritten;
      read_fault = e.read_fault;
      write_fault = e.write_fault;
      complete = e.complete;
    }

pub returns-else-is_quiet : goal.returns-else-is_quiet
returns-else-is_quiet g c =
    let e = c.with_devices.ensures in record {
      outcome = e.outcome;
      sure = e.sure;
      sure_written = e.sure_written;
      unread = e.unread;
      at_most = e.at_most;
      told = e.told;
      end = e.end;
      read_out = e.read_out;
      kept = e.held;
      unwritten = e.unwritten;
      read_fault = e.read_fault;
      write_fault = e.write_fault;
      complete = e.complete;
    }
