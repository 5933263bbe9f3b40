use Rattle.tile_text.proofs.values.put_rest.Goals as goal

pub returns-in-Float4-clause-ok : goal.returns-in-Float4-clause-ok
returns-in-Float4-clause-ok c = rw c.in-Float4.is c.put_hex.ensures.ok

pub returns-in-Float4-clause-err : goal.returns-in-Float4-clause-err
returns-in-Float4-clause-err c = rw c.in-Float4.is c.put_hex.ensures.err

pub returns-in-Raw-clause-ok : goal.returns-in-Raw-clause-ok
returns-in-Raw-clause-ok c = rw c.in-Raw.is c.put_hex-in-Raw.ensures.ok

pub returns-in-Raw-clause-err : goal.returns-in-Raw-clause-err
returns-in-Raw-clause-err c = rw c.in-Raw.is c.put_hex-in-Raw.ensures.err
