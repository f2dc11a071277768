mod Ops
mod Ready
