use Rattle.machine_commands.proofs.evaluate.+operation_value.Given as goal

abbrev pub decreases-operation_value : goal.decreases-operation_value
decreases-operation_value l = l.e
