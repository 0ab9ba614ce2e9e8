-- What the functions inside promise each other and what their proofs speak of. Nobody has to believe it: no exported contract
-- and no theorem for users cites it.
pub mod Making
