-- What command lines of one word ask for.
use Rattle.std.proofs.Common.{◌≡◌, [], ◌∷◌, Some, codes, refl}
use Rattle.store_model.specs.Words.{request_of}
use Rattle.store_model.specs.Words.Request.{Run, Session, Upgrade, Dump, Load}

pub asks_run : request_of (codes "run" ∷ []) ≡ Some Run
unfolding request_of
asks_run = refl

pub asks_session : request_of (codes "session" ∷ []) ≡ Some Session
unfolding request_of
asks_session = refl

pub asks_upgrade : request_of (codes "upgrade" ∷ []) ≡ Some Upgrade
unfolding request_of
asks_upgrade = refl

pub asks_dump : request_of (codes "dump" ∷ []) ≡ Some Dump
unfolding request_of
asks_dump = refl

pub asks_load : request_of (codes "load" ∷ []) ≡ Some Load
unfolding request_of
asks_load = refl
