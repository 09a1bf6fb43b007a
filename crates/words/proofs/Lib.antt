pub mod CrcCode
