-- Keywords that are no call's or reply's, by the groups in which these are told apart.
use Rattle.std.specs.Prelude.{◌≡◌, ℕ, List, codes}

-- no keyword of the calls whose arguments no others have, or with less than two or more than three
pub record IsNoOwnWord (word : List ℕ) : Type 0 where
  pub send : codes "send" ≡ word → ⊥
  pub recv : codes "recv" ≡ word → ⊥
  pub task : codes "task" ≡ word → ⊥
  pub insert : codes "insert" ≡ word → ⊥
  pub extract : codes "extract" ≡ word → ⊥
  pub again : codes "again" ≡ word → ⊥
  pub modrefs : codes "modrefs" ≡ word → ⊥
  pub notify : codes "notify" ≡ word → ⊥
  pub names : codes "names" ≡ word → ⊥
  pub ending : codes "end" ≡ word → ⊥

-- no keyword of the other calls with two arguments
pub record IsNoPairWord (word : List ℕ) : Type 0 where
  pub alloc : codes "alloc" ≡ word → ⊥
  pub dealloc : codes "dealloc" ≡ word → ⊥
  pub destroy : codes "destroy" ≡ word → ⊥
  pub type_of : codes "type" ≡ word → ⊥
  pub status : codes "status" ≡ word → ⊥
  pub members : codes "members" ≡ word → ⊥

-- no keyword of a reply but those that answer one decimal number
pub record IsNoOtherWord (word : List ℕ) : Type 0 where
  pub code : codes "code" ≡ word → ⊥
  pub type_of : codes "type" ≡ word → ⊥
  pub names : codes "names" ≡ word → ⊥
  pub status : codes "status" ≡ word → ⊥
  pub members : codes "members" ≡ word → ⊥
  pub right : codes "right" ≡ word → ⊥
  pub message : codes "message" ≡ word → ⊥
  pub empty : codes "empty" ≡ word → ⊥
  pub norecord : codes "norecord" ≡ word → ⊥
