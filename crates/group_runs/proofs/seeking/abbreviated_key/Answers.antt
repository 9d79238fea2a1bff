use Rattle.group_runs.proofs.seeking.abbreviated_key.Goals as goal

pub returns-clause-bytes : goal.returns-clause-bytes
returns-clause-bytes c = λ i. (c.type_inv.key i).fits
