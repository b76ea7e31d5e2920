-- The strings of meta.db as facts: in which section each lies, where its place stands, and when it is read.
use Rattle.std.specs.Prelude.{ℕ, ◌+◌, ◌*◌, ◌<◌, List}
use Rattle.le.specs.Number.{number}
use Rattle.open.specs.Format.{meta}
use Rattle.open.specs.Names as Section
use Rattle.open.specs.Opening.{pairs, pair_in, place_in}
use Rattle.open.specs.Kept.{Opens}
use Rattle.text.specs.Facts.{Sited, StringSays}
use Rattle.array.specs.declared.Array.{Array}
use Rattle.array.specs.Stored.{array_in}
use Rattle.meta.specs.Names.{title_at, description_at, kind_at, module_at, source_at, source_text}

abbrev pub section_of : List ℕ → (k : ℕ) → List ℕ
section_of file k = pair_in (pairs meta file) k

abbrev pub array_at : List ℕ → (k : ℕ) → Array
array_at file k = array_in meta file (pairs meta file) k

-- where element i of an array stands
abbrev pub element_place : Array → (i : ℕ) → ℕ
element_place a i = a.place + i * a.stride

-- the string whose place stands in the General section
abbrev pub general_string : List ℕ → (offset : ℕ) → Sited
general_string file offset = record {
  section = section_of file Section.general;
  place = number 8 file (place_in (pairs meta file) Section.general + offset);
  Read = Opens meta file;
}

-- that of element i of the array of section k, in section t
abbrev pub element_string : List ℕ → (k t i offset : ℕ) → Sited
element_string file k t i offset = record {
  section = section_of file t;
  place = number 8 file (element_place (array_at file k) i + offset);
  Read = Opens meta file × (i < (array_at file k).count);
}

abbrev pub title_string : List ℕ → Sited
title_string file = general_string file 0

abbrev pub description_string : List ℕ → Sited
description_string file = general_string file 8

abbrev pub kind_string : List ℕ → (i : ℕ) → Sited
kind_string file i = element_string file Section.id_names Section.id_names i 0

abbrev pub module_string : List ℕ → (i : ℕ) → Sited
module_string file i = element_string file Section.modules Section.strings i 8

abbrev pub source_string : List ℕ → (i : ℕ) → Sited
source_string file i = element_string file Section.files Section.strings i 8

pub record NamesSay (file : List ℕ) : Type 0 where
  pub title : StringSays file (title_string file) (title_at file)
  pub description : StringSays file (description_string file) (description_at file)
  pub kind : (i : ℕ) → StringSays file (kind_string file i) (kind_at file i)
  pub module_path : (i : ℕ) → StringSays file (module_string file i) (module_at file i)
  pub source_path : (i : ℕ) → StringSays file (source_string file i) (source_text (source_at file i))
