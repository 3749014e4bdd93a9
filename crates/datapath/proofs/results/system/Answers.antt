-- Each register is what its own call ensures.
use Rattle.datapath.specs.Results.{new_ir, new_mar}
use Rattle.datapath.proofs.results.system.Goals as goal

pub returns : goal.returns
unfolding new_ir new_mar
returns c =
    rw (
      c.mbr.ensures,
      c.mar.ensures,
      c.choose.ensures,
      c.pc.ensures,
    )
