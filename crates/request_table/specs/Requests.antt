-- What contracts see of requests: each under the number of its name, the names of each port in the order in which they came, how many more fit with no memory taken, and those whose names went, in the order in which they went.
use Rattle.std.specs.Prelude.{◌≡◌, ◌≢◌, ℕ, ◌+◌, ◌-◌, ◌*◌, ◌^◌, ◌++◌, List, [], ◌∷◌, Some, unwrap_or, drop, refl}
use Rattle.std.specs.Coded.{Coded, code_by, coded×, coded_ℕ, coded_list}
use Rattle.std.specs.FinMap as map
use Rattle.std.specs.Ordering.{nat_cmp}
use Rattle.member_lists.specs.Lists.{without}
use Rattle.request_table.specs.declared.Request.{Request}

pub record RequestsView : Type 0 where
  pub requests : map.FinMap nat_cmp Request
  pub names : map.FinMap nat_cmp (List ℕ)
  pub room : ℕ
  pub went : List Request

abbrev pub requests_code : Coded Request → Coded RequestsView
requests_code code = code_by
    (map.FinMap nat_cmp Request × (map.FinMap nat_cmp (List ℕ) × (ℕ × List Request)))
    (coded× (map.code coded_ℕ code) (coded× (map.code coded_ℕ (coded_list coded_ℕ)) (coded× coded_ℕ (coded_list code))))
    (λ v. (v.requests, (v.names, (v.room, v.went))))
    (λ p. record { requests = p.0; names = p.1.0; room = p.1.1.0; went = p.1.1.1 })
    (λ _. refl)

abbrev pub no_requests : RequestsView
no_requests = record { requests = map.empty; names = map.empty; room = 0; went = [] }

-- The number of a task's name: no two names of tasks have the same, since a name is less than 2^32.
abbrev pub name_key : (task name : ℕ) → ℕ
name_key task name = task * 2 ^ 32 + name

abbrev pub key_of : Request → ℕ
key_of r = name_key r.task r.name

-- the names of a port that have requests, in the order in which they came
abbrev pub names_of : RequestsView → (port : ℕ) → List ℕ
names_of v port = unwrap_or (map.get v.names port) []

-- a port's names are these, and it has no list where there are none; each other port's are as they were
abbrev pub with_names : map.FinMap nat_cmp (List ℕ) → (port : ℕ) → List ℕ → map.FinMap nat_cmp (List ℕ)
with_names names port [] = map.remove names port
with_names names port (k ∷ ks) = map.insert names port (k ∷ ks)

-- a request more, whose name is the last of its port's
abbrev pub with_request : RequestsView → Request → RequestsView
with_request v r = record {
  requests = map.insert v.requests (key_of r) r;
  names = with_names v.names r.port (names_of v r.port ++ key_of r ∷ []);
  room = v.room - 1;
  went = v.went;
}

-- a request less; the other names of its port keep their order
abbrev pub without_request : RequestsView → Request → RequestsView
without_request v r = record {
  requests = map.remove v.requests (key_of r);
  names = with_names v.names r.port (without (key_of r) (names_of v r.port));
  room = v.room + 1;
  went = v.went;
}

-- a request whose name went stands no more, and is the last of those that went; its place is no room yet
abbrev pub with_name_gone : RequestsView → Request → RequestsView
with_name_gone v r = record {
  requests = map.remove v.requests (key_of r);
  names = with_names v.names r.port (without (key_of r) (names_of v r.port));
  room = v.room;
  went = v.went ++ r ∷ [];
}

-- the first of those that went is no more, and its place is room
abbrev pub without_first_went : RequestsView → RequestsView
without_first_went v = record v { room = v.room + 1; went = drop 1 v.went }

-- the request is there, and on a name of this port
pub record IsOn (v : RequestsView) (port : ℕ) (r : Request) : Type 0 where
  pub there : map.get v.requests (key_of r) ≡ Some r
  pub is : r.port ≡ port

-- no request is on a name of this port
pub record NoneOn (v : RequestsView) (port : ℕ) : Type 0 where
  pub names : names_of v port ≡ []
  pub apart : (key : ℕ) (r : Request) → map.get v.requests key ≡ Some r → r.port ≢ port
