use Rattle.std.proofs.Common.{sym}
use Rattle.wm_valid.specs.ScopeView.{body_of}
use Rattle.wm_valid.proofs.InstrCases.{no_arrow}
use Rattle.wm_valid.proofs.rule.signature.Goals as goal

pub returns-in_default-clause-exact : goal.returns-in_default-clause-exact
returns-in_default-clause-exact c =
    let d = c.in_default in
    sym (no_arrow (body_of c.args.scope.now) c.args.instr.now (record {
      nop = d.not-Nop;
      call = d.not-Call;
      local_get = d.not-LocalGet;
      local_set = d.not-LocalSet;
      local_tee = d.not-LocalTee;
      global_get = d.not-GlobalGet;
      global_set = d.not-GlobalSet;
      load = d.not-Load;
      store = d.not-Store;
      memory_size = d.not-MemorySize;
      memory_grow = d.not-MemoryGrow;
      memory_copy = d.not-MemoryCopy;
      memory_fill = d.not-MemoryFill;
      const = d.not-Const;
      num = d.not-Num;
    }))
