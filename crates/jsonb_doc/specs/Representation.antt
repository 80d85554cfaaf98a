-- What spots, iterators and the builder of documents store. A call establishes each relation, others keep it, and what
-- follows from it is stated over trees and items: a relation that said too little would leave that without a proof.
pub mod Iterators
pub mod Positions
pub mod Pieces
pub mod DocumentBuilder
