use Rattle.lent_core.proofs.InPlace.{load-put}
use Rattle.lent_core.proofs.put_load.Goals as goal

pub returns : goal.returns
returns c = let a = c.args in
    rw (c.put_past.ensures, c.put_gpr.ensures.1, c.get_elr-trapped.ensures)
    (load-put a.cores.now a.core a.index a.value)
