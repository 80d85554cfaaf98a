-- What handles keep, and own. A call establishes each relation, others keep it, and what follows from it is stated over
-- paths and items: a relation that said too little would leave that without a proof.
pub mod Prepared
pub mod Handles
