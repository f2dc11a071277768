-- What a load, and a server, come to.
use Rattle.std.proofs.Common.{◌≡◌, ◌∙◌, ◌⊎◌, ℕ, List, codes, Option, Some, Result, Ok, Err, IfOk, IsErrAnd, inl, inr, refl, sym, ap, subst}
use Rattle.std.proofs.KnownBytes.{Appends-nil}
use Rattle.art_key.specs.Schemas.{schema_of}
use Rattle.art_key.specs.declared.columns.Column.{Column}
use Rattle.art_key.specs.declared.faults.SchemaFault.{SchemaFault}
use Rattle.art_load.proofs.Closes.{loads_are_one_map}
use Rattle.art_load.specs.Loads.{LoadsAll}
use Rattle.art_load.specs.declared.counts.Counts.{Counts}
use Rattle.art_server.specs.ArtTable.Closing.{AreAllPasses, IsClosed}
use Rattle.art_server.specs.ArtTable.Opening.{IsOpened}
use Rattle.art_server.specs.ArtTable.Tables.{sizes_in}
use Rattle.art_server.specs.ArtTable.declared.closing.Closed.{Closed}
use Rattle.art_server.specs.ArtTable.declared.passes.Pass.{Pass}
use Rattle.art_server.specs.ArtTable.declared.tables.Table.{Table}
use Rattle.art_server.specs.ArtRefusal.Refusals.{schema_refusal}
use Rattle.art_tools.proofs.Backs.{loaded_all, opened_of, served_all}
use Rattle.art_tools.proofs.Passes.{no_memory}
use Rattle.art_tools.specs.Loads.{RunsLoad, load_text}
use Rattle.art_tools.specs.Servers.{HaveBeenServed, RunsServer, served_text}
use Rattle.art_tools.specs.Statuses.{fault_in, unserved}
use Rattle.art_tools.specs.Tables.{NotClosed, Prints, of_passes}
use Rattle.std.specs.Prelude.{vec_len}
use Rattle.art_tools.specs.declared.run_faults.RunFault.{RunFault}
use Rattle.art_tools.specs.declared.run_faults.RunFault.TheVariants.{NoMemory, CannotListen, Refused}
use Rattle.art_tools.specs.declared.settings.LoadSettings.{LoadSettings}
use Rattle.art_tools.specs.declared.settings.ServeSettings.{ServeSettings}
use Rattle.art_workers.proofs.OneMap.{served_are_one_map}
use Rattle.art_workers.specs.Serving.{HaveServed}
use Rattle.art_workers.specs.declared.faults.ServeFault.{ServeFault}
use Rattle.art_workers.specs.declared.faults.ServeFault.TheVariants as serve

-- with all passes there, only memory keeps a table from being closed
only_memory : (t : Table) (passes : List Pass) (fault : RunFault) → AreAllPasses (sizes_in t).passes passes → NotClosed t passes fault
    → fault ≡ NoMemory
only_memory t passes fault all n = n.told ∙ no_memory t passes n.why all n.explains

-- what a result that is an error tells
pub told_some : {A : Type 0} (r : Result A RunFault) (fault : RunFault) → IsErrAnd r (λ e. e ≡ fault) → fault_in r ≡ Some fault
told_some (Ok a) fault is = absurd is
told_some (Err e) fault is = ap Some is

-- what holds where a result is Ok holds of what it is
pub of_ok : {A E : Type 0} (r : Result A E) (P : A → Type 0) (a : A) → r ≡ Ok a → IfOk r P → P a
of_ok {A} {E} r P a is holds = subst (λ (x : Result A E). IfOk x P) is holds

-- ---- a load

-- `u64` is a schema
pub no_schema_fault : (fault : SchemaFault) → schema_of (codes "u64") ≡ Err fault → ⊥
no_schema_fault fault is = cc

module _ (asked : LoadSettings) where
  -- nothing was written
  pub has_not_loaded : (held : Option (List ℕ)) (told : Option RunFault) → told ≡ Some NoMemory → RunsLoad asked held held told
  has_not_loaded held told why = inr (record { unwritten = Appends-nil held; why = why })

  module _ (columns : List Column) (t : Table) (passes back : List Pass) (counts : Counts)
      (opened : IsOpened columns (of_passes asked.threads asked.sizes) t passes)
      (loads : LoadsAll t asked.seed asked.keys asked.ops passes counts back) where
    -- the table was closed
    pub has_loaded : (closed : Closed) (held held_after : Option (List ℕ)) (told : Option RunFault) → schema_of (codes "u64") ≡ Ok columns
        → IsClosed t back closed → Prints (load_text counts (vec_len closed.rows)) held held_after told
        → RunsLoad asked held held_after told
    has_loaded closed held held_after told schema shut prints =
        let config = of_passes asked.threads asked.sizes in
        inl (record {
          columns = columns;
          table = t;
          passes = passes;
          back = back;
          counts = counts;
          closed = closed;
          schema = schema;
          opened = opened;
          loaded = loads_are_one_map columns config t passes asked.seed asked.keys asked.ops counts back closed opened loads shut;
          prints = prints;
        })

    -- there was no memory to close it
    pub not_closed_after : (held : Option (List ℕ)) (told : Option RunFault) (fault : RunFault) → told ≡ Some fault → NotClosed t back fault
        → RunsLoad asked held held told
    not_closed_after held told fault is n =
        let all = loaded_all columns asked.threads asked.sizes t passes back opened asked.seed asked.keys asked.ops counts loads in
        has_not_loaded held told (is ∙ ap Some (only_memory t back fault all n))

-- ---- a server

-- the schema is none
pub no_server : (schema : Result (List Column) SchemaFault) (asked : ServeSettings) (held : Option (List ℕ)) (fault : SchemaFault)
    (told : Option RunFault) → schema ≡ Err fault → told ≡ Some (Refused (schema_refusal fault)) → RunsServer schema asked held held told
no_server schema asked held fault told is why =
    subst (λ (s : Result (List Column) SchemaFault). RunsServer s asked held held told) (sym is)
    (record { unwritten = Appends-nil held; why = why })

-- what is told of a server that did not answer all its sessions
unserved_why : (fault : ServeFault) → (unserved fault ≡ NoMemory) ⊎ (unserved fault ≡ CannotListen)
unserved_why serve.Accept = inr refl
unserved_why serve.NoMemory = inl refl

module _ (schema : Result (List Column) SchemaFault) (columns : List Column) (is : schema ≡ Ok columns) (asked : ServeSettings) where
  of_columns : (held held_after : Option (List ℕ)) (told : Option RunFault) → RunsServer (Ok columns) asked held held_after told
      → RunsServer schema asked held held_after told
  of_columns held held_after told runs =
      subst (λ (s : Result (List Column) SchemaFault). RunsServer s asked held held_after told) (sym is) runs

  -- there was no memory, and nothing was written
  pub has_no_memory : (held : Option (List ℕ)) (told : Option RunFault) → told ≡ Some NoMemory → RunsServer schema asked held held told
  has_no_memory held told why = of_columns held held told (inr (record { unwritten = Appends-nil held; why = inl why }))

  -- there was no listener, or a worker had a fault
  pub has_not_served : (t : Table) (passes back : List Pass) (held : Option (List ℕ)) (told : Option RunFault) (fault : RunFault)
      → told ≡ Some fault → HaveBeenServed t passes back (Err fault) → RunsServer schema asked held held told
  has_not_served t passes back held told fault is (inl none) =
      of_columns held held told (inr (record { unwritten = Appends-nil held; why = inr (is ∙ ap Some none.told) }))
  has_not_served t passes back held told fault is (inr faulted) =
      let why : (told ≡ Some NoMemory) ⊎ (told ≡ Some CannotListen) = elim (unserved_why faulted.fault) [
        | inl memory ↦ inl (is ∙ ap Some (faulted.told ∙ memory))
        | inr listen ↦ inr (is ∙ ap Some (faulted.told ∙ listen))
      ] in
      of_columns held held told (inr (record { unwritten = Appends-nil held; why = why }))

  module _ (t : Table) (passes back : List Pass) (ended : ℕ)
      (opened : IsOpened columns (of_passes asked.workers asked.table.sizes) t passes) (served : HaveServed t passes back (Ok ended)) where
    -- the table was closed
    pub has_served : (closed : Closed) (held held_after : Option (List ℕ)) (told : Option RunFault) → IsClosed t back closed
        → Prints (served_text ended) held held_after told → RunsServer schema asked held held_after told
    has_served closed held held_after told shut prints =
        let of = opened_of columns asked.workers asked.table.sizes t passes opened in
        of_columns held held_after told (inl (record {
          table = t;
          passes = passes;
          back = back;
          ended = ended;
          closed = closed;
          opened = opened;
          served = served;
          shut = shut;
          one = served_are_one_map t passes back (Ok ended) closed of served shut;
          prints = prints;
        }))

    -- there was no memory to close it
    pub not_closed_then : (held : Option (List ℕ)) (told : Option RunFault) (fault : RunFault) → told ≡ Some fault → NotClosed t back fault
        → RunsServer schema asked held held told
    not_closed_then held told fault is n =
        let all = served_all columns asked.workers asked.table.sizes t passes back opened ended served in
        has_no_memory held told (is ∙ ap Some (only_memory t back fault all n))
