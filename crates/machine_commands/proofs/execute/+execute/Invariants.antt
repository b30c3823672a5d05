use Rattle.machine_commands.proofs.execute.+execute.Given as goal

abbrev pub decreases-execute : goal.decreases-execute
decreases-execute l = l.n
