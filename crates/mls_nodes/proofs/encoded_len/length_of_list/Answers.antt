use Rattle.mls_nodes.proofs.encoded_len.length_of_list.Goals as goal

pub returns-clause-length : goal.returns-clause-length
returns-clause-length g c = rw c.encoded.ensures.encoded c.length_of_body.ensures.length
