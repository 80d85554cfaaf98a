-- Definitions for contracts of private functions. No public clause cites these.
pub mod Units
pub mod LaterKeys
pub mod KeysView
