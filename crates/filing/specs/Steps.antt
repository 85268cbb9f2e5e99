-- What the functions behind `write_file` promise.
use Rattle.std.specs.Prelude.{◌≡◌, List, ℕ, ◌+◌, ◌/◌, length}
use Rattle.lists.specs.Fill.{placed}
use Rattle.disk.specs.Disk.{start}
use Rattle.records.specs.Records.{file_record}
use Rattle.filing.specs.Filing.{place_in, list_in, with_lists, data_in, with_data}

-- the bytes of list j
pub record ListMade (P : List ℕ) (j : ℕ) (made : List ℕ) : Type 0 where
  pub is : made ≡ list_in P j

-- the bytes of data sector k
pub record DataMade (address : ℕ) (bytes : List ℕ) (k : ℕ) (made : List ℕ) : Type 0 where
  pub is : made ≡ data_in (file_record address (length bytes) bytes) k

-- data sector k was written to its place
pub record DataPut (P : List ℕ) (address : ℕ) (bytes : List ℕ) (k : ℕ) (before after : List ℕ) : Type 0 where
  pub is : after ≡ placed (start 16 (place_in P (k + 1 + k / 122))) (data_in (file_record address (length bytes) bytes) k) before

-- the first lists were written
pub record ListsWritten (P : List ℕ) (count : ℕ) (before after : List ℕ) : Type 0 where
  pub is : after ≡ with_lists P count before

-- the first data sectors were written
pub record DataWritten (P : List ℕ) (address : ℕ) (bytes : List ℕ) (count : ℕ) (before after : List ℕ) : Type 0 where
  pub is : after ≡ with_data P (file_record address (length bytes) bytes) count before
