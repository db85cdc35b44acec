use Rattle.cluster_client.proofs.fan_out.unless_memory.Goals as goal

pub returns-then-is_memory-clause-memory : goal.returns-then-is_memory-clause-memory
returns-then-is_memory-clause-memory c = tt
